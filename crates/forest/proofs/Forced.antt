-- Closed sets and the smallest one that holds given marks (demand 3).
use mathlib.Core.List.{List, [], ◌∷◌}
use mathlib.Core.Logic.{◌↔◌, ⊎_elim, inl, inr}
use Prim.Native.Nat.{ℕ, ◌<◌}
use Rattle.split.specs.Split.{Side}
use Rattle.forest.specs.Element.{Forest, Element, el, HoldsEdge}
use Rattle.forest.specs.Closed.{Present, ClosedAsDemanded, Closed, Forced, marked}
use Rattle.forest.specs.Union.{Either}
pub use Rattle.forest.proofs.Least.{forced_closed, forced_least}

-- what is in the mesh of a smaller set of splits is in that of a greater one
pub present_in : (F : Forest) (A Z : Element → Type 0) → ((e : Element) → A e → Z e) → (e : Element) → Present F A e → Present F Z e
present_in F A Z f (el k []) h = h
present_in F A Z f (el k (s ∷ p)) h = f (el k p) h

-- the two readings of `closed` agree, the second on sets that can be decided
pub closed_demanded : {F : Forest} {S : Element → Type 0} → Closed F S → ClosedAsDemanded F S
closed_demanded c = record { parents = c.parents; conforming = λ t u l s h. l.unsplit (c.edges t u l.present s h) }

pub demanded_closed : {F : Forest} {S : Element → Type 0} → ((e : Element) → Dec (S e)) → ClosedAsDemanded F S → Closed F S
demanded_closed {F} {S} decide c = record { parents = c.parents; edges = λ t u p s h. held t u p s h (decide t) }
  where
    held : (t u : Element) → Present F S t → S u → HoldsEdge F t u → Dec (S t) → S t
    held t u p s h (yes y) = y
    held t u p s h (no n) = absurd (c.conforming t u (record { present = p; unsplit = n }) s h)

pub forced_holds : {F : Forest} {M : Element → Type 0} {e : Element} → M e → Forced F M e
forced_holds m = marked m

-- more marks force more, and forcing again adds nothing
pub forced_monotone : {F : Forest} {A B : Element → Type 0} → ((e : Element) → A e → B e) → (e : Element) → Forced F A e → Forced F B e
forced_monotone h = forced_least forced_closed (λ e a. marked (h e a))

pub forced_again : {F : Forest} {A B : Element → Type 0} (e : Element) → Forced F (Either (Forced F A) B) e ↔ Forced F (Either A B) e
forced_again e = (forced_least forced_closed (λ x. ⊎_elim (forced_monotone (λ y a. inl a) x) (λ b. marked (inr b))) e, forced_monotone (λ x. ⊎_elim (λ a. inl (marked a)) inr) e)

pub forced_self : {F : Forest} {S : Element → Type 0} → Closed F S → (e : Element) → Forced F S e ↔ S e
forced_self c e = (forced_least c (λ x s. s) e, λ s. marked s)

-- the elements below a root of the forest are a closed set, so nothing outside them is forced
abbrev Rooted : Forest → Element → Type 0
Rooted F (el k p) = k < F.count

rooted_closed : (F : Forest) → Closed F (Rooted F)
rooted_closed F = record { parents = λ k s p h. h; edges = edges }
  where
    edges : (t u : Element) → Present F (Rooted F) t → Rooted F u → HoldsEdge F t u → Rooted F t
    edges (el k []) u p h g = p
    edges (el k (s ∷ q)) u p h g = p

pub forced_rooted : {F : Forest} {M : Element → Type 0} → ((k : ℕ) (p : List Side) → M (el k p) → k < F.count) → (k : ℕ) (p : List Side) → Forced F M (el k p) → k < F.count
forced_rooted {F} {M} h k p = forced_least (rooted_closed F) marks (el k p)
  where
    marks : (e : Element) → M e → Rooted F e
    marks (el k p) m = h k p m

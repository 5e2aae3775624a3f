-- What marks force is the smallest closed set that holds them, in demand 3's own words.
use mathlib.Core.List.{[], ◌∷◌}
use mathlib.Core.Logic.{◌↔◌}
use Rattle.forest.specs.Element.{Forest, Element, el}
use Rattle.forest.specs.Closed.{Present, ClosedAsDemanded, Closed, Forced, Smallest}
use Rattle.forest.proofs.Forced.{present_in, closed_demanded, demanded_closed, forced_closed, forced_holds, forced_least}

-- a set with the members of a closed set is closed
pub closed_along : {F : Forest} {S T : Element → Type 0} → ((e : Element) → S e ↔ T e) → Closed F T → Closed F S
closed_along {F} {S} {T} f c = record {
  parents = λ k s p x. (f (el k p)).1 (c.parents k s p ((f (el k (s ∷ p))).0 x));
  edges = λ t u p x h. (f t).1 (c.edges t u (present_in F S T (λ e. (f e).0) t p) ((f u).0 x) h);
}

-- the elements that are not outside T
abbrev Inside : (Element → Type 0) → Element → Type 0
Inside T e = (T e → ⊥) → ⊥

present_inside : (F : Forest) (T : Element → Type 0) (t : Element) → Present F (Inside T) t → (Present F T t → ⊥) → ⊥
present_inside F T (el k []) p n = n p
present_inside F T (el k (s ∷ q)) p n = p n

inside_closed : {F : Forest} (T : Element → Type 0) → ClosedAsDemanded F T → Closed F (Inside T)
inside_closed {F} T c = record {
  parents = λ k s p x n. x (λ y. n (c.parents k s p y));
  edges = λ t u p x h n. present_inside F T t p (λ q. x (λ y. c.conforming t u (record { present = q; unsplit = n }) y h));
}

-- a set with the members that M forces
pub smallest_along : {F : Forest} {M S : Element → Type 0} → ((e : Element) → S e ↔ Forced F M e) → Smallest F M S
smallest_along f = record {
  closed = closed_demanded (closed_along f forced_closed);
  holds = λ e m. (f e).1 (forced_holds m);
  least = λ T d c h e s. forced_least (demanded_closed d c) h e ((f e).0 s);
  none_outside = λ T c h e s. forced_least (inside_closed T c) (λ x m n. n (h x m)) e ((f e).0 s);
}

pub forced_smallest : {F : Forest} {M : Element → Type 0} → Smallest F M (Forced F M)
forced_smallest = smallest_along (λ e. (λ x. x, λ x. x))

-- there is only one whose members can be told, and it hangs on which elements are held alone
pub smallest_same : {F : Forest} {M N S T : Element → Type 0} → ((e : Element) → M e ↔ N e) → ((e : Element) → Dec (S e)) → ((e : Element) → Dec (T e)) → Smallest F M S → Smallest F N T → (e : Element) → S e ↔ T e
smallest_same {S = S} {T = T} same told-s told-t s t e = (s.least T told-t t.closed (λ x m. t.holds x ((same x).0 m)) e, t.least S told-s s.closed (λ x n. s.holds x ((same x).1 n)) e)

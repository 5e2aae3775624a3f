-- What is split depends only on what was split at the start and which elements were marked in the accepted calls (demand 3).
use mathlib.Core.Path.{◌≡◌, refl, subst}
use mathlib.Core.List.Memᴰ
use mathlib.Core.List.{List, [], ◌∷◌, Memᴰ}
use mathlib.Core.Logic.Iff
use mathlib.Core.Logic.{◌↔◌, ◌⊎◌, ⊎_elim, inl, inr}
use Rattle.forest.specs.Element.{Forest, Element}
use Rattle.forest.specs.Closed.{Closed, Forced, marked}
use Rattle.forest.specs.Union.{Either}
use Rattle.forest.specs.History.{Marked, Nothing, called_since}
use Rattle.forest.proofs.Forced.{forced_closed, forced_least, forced_monotone, forced_self}

-- marked in the newest call, or in one before it
now : {m : List Element} {ms : List (List Element)} {e : Element} → Memᴰ e m → Marked (m ∷ ms) e
now {m} i = record { call = m; accepted = Memᴰ.head refl; mark = i }

before : {m : List Element} {ms : List (List Element)} {e : Element} → Marked ms e → Marked (m ∷ ms) e
before k = record { call = k.call; accepted = Memᴰ.tail k.accepted; mark = k.mark }

now_or_before : {m : List Element} {ms : List (List Element)} {e : Element} → Marked (m ∷ ms) e → Marked ms e ⊎ Memᴰ e m
now_or_before {m} {ms} {e} k = go (Memᴰ.cases_cons k.accepted)
  where
    go : (k.call ≡ m) ⊎ Memᴰ k.call ms → Marked ms e ⊎ Memᴰ e m
    go (inl q) = inr (subst (λ (l : List Element). Memᴰ e l) q k.mark)
    go (inr i) = inl (record { call = k.call; accepted = i; mark = k.mark })

-- where nothing was split before, only the marks count
pub nothing_before : {F : Forest} {M : Element → Type 0} (e : Element) → Forced F (Either Nothing M) e ↔ Forced F M e
nothing_before e = (forced_monotone (λ x. ⊎_elim absurd (λ k. k)) e, forced_monotone (λ x. inr) e)

module _ (F : Forest) (B : Element → Type 0) (closed : Closed F B) where
  -- no call yet: B alone
  start_forced : (e : Element) → Forced F (Either B (Marked [])) e ↔ Forced F B e
  start_forced e = (forced_monotone (λ x. ⊎_elim (λ b. b) (λ k. absurd (Memᴰ.not-nil k.accepted))) e, forced_monotone (λ x. inl) e)

  -- after any calls, what is split is the smallest closed set that holds what was split before them and every element marked in one of them (demand 3)
  pub since_forced : (ms : List (List Element)) (e : Element) → called_since F B ms e ↔ Forced F (Either B (Marked ms)) e
  unfolding called_since
  since_forced [] e = Iff.symm (Iff.trans (start_forced e) (forced_self closed e))
  since_forced (m ∷ ms) e = go (since_forced ms)
    where
      more : (x : Element) → Either B (Marked ms) x → Either B (Marked (m ∷ ms)) x
      more x = ⊎_elim inl (λ k. inr (before k))

      go : ((x : Element) → called_since F B ms x ↔ Forced F (Either B (Marked ms)) x) → called_since F B (m ∷ ms) e ↔ Forced F (Either B (Marked (m ∷ ms))) e
      go ih = (
        forced_least forced_closed (λ x. ⊎_elim (λ c. forced_monotone more x ((ih x).0 c)) (λ i. marked (inr (now i)))) e,
        forced_monotone (λ x. ⊎_elim (λ b. inl ((ih x).1 (marked (inl b)))) (λ k. ⊎_elim (λ b. inl ((ih x).1 (marked (inr b)))) inr (now_or_before k))) e,
      )

  -- calls that mark more split more
  since_monotone : (ms ns : List (List Element)) → ((e : Element) → Marked ms e → Marked ns e) → (e : Element) → called_since F B ms e → called_since F B ns e
  since_monotone ms ns h e c = (since_forced ns e).1 (forced_monotone (λ x. ⊎_elim inl (λ k. inr (h x k))) e ((since_forced ms e).0 c))

  -- so order, grouping and repetition of marks cannot change which elements are split (demand 3)
  pub order_free : (ms ns : List (List Element)) → ((e : Element) → Marked ms e ↔ Marked ns e) → (e : Element) → called_since F B ms e ↔ called_since F B ns e
  order_free ms ns h e = (since_monotone ms ns (λ x. (h x).0) e, since_monotone ns ms (λ x. (h x).1) e)

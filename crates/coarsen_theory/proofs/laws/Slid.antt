-- A table sifted in place: what passes moves down to its new number, in ascending order. A number is written only after everything from there on was read.
use mathlib.Core.Path.{◌≡◌, refl, sym, ap, ◌∙◌}
use mathlib.Core.Bool.{Bool, true, false}
use mathlib.Core.List.{List}
use Prim.Native.Nat.{ℕ, ◌+◌, ◌/◌, ◌≤◌, ◌<◌}
use native.Mathlib.Omega.{arith}
use lib.ListN.{length, get_or}
use lib.Seq.{ext_get_or}
use Rattle.split.proofs.laws.Places.{Against, less, equal, more, against}
use Rattle.tables.specs.Mesh.{up_to}
use Rattle.tables.proofs.laws.Table.{Table, length_put, at_put, at_put_other}
use Rattle.tables.proofs.laws.View.{length_up_to, up_to_at}
use Rattle.intake.specs.Search.{count}
use Rattle.opening.proofs.laws.Counting.{count_below}
use Rattle.coarsen_theory.specs.Thinned.{sift}
use Rattle.coarsen_theory.proofs.laws.Sifted.{count_less, count_from, sift_length, sift_at}

-- the places below k of table l were gone through, and now it is l': what passed stands at its new number, renamed by f, and what is ahead is untouched
pub record Slid {A B : Type 0} (at : List B → ℕ → A) (w : ℕ) (test : ℕ → Bool) (f : ℕ → A) (l l' : List B) (k : ℕ) : Type 0 where
  pub size : length l' ≡ length l
  pub done : (j : ℕ) → j < k → test j ≡ true → at l' (count test j) ≡ f j
  pub ahead : (j : ℕ) → k ≤ j → j < length l / w → at l' j ≡ at l j

module _ {A B : Type 0} {w : ℕ} {cells : A → List B} {from : List B → ℕ → A} {none : A} {at : List B → ℕ → A} {put : List B → ℕ → A → List B} (t : Table w cells from none at put) (test : ℕ → Bool) (f : ℕ → A) where
  pub slid_start : (l : List B) → Slid at w test f l l 0
  slid_start l = record { size = refl; done = λ j h. absurd (omega arith); ahead = λ j h b. refl }

  module _ {l l' : List B} {k : ℕ} (s : Slid at w test f l l' k) where
    -- a place that does not pass is left out
    pub slid_skip : test k ≡ false → Slid at w test f l l' (k + 1)
    slid_skip e = record { size = s.size; done = λ j h p. go j (against j k) h p; ahead = λ j h b. s.ahead j (omega arith) b }
      where
        go : (j : ℕ) → Against j k → j < k + 1 → test j ≡ true → at l' (count test j) ≡ f j
        go j (less h) _ p = s.done j h p
        go j (equal i) _ p = let z : ◌≡◌ {A = ℕ} 0 1 = cc in absurd (omega arith)
        go j (more h) b p = absurd (omega arith)

    -- a place that passes is written at its new number
    pub slid_move : test k ≡ true → k < length l / w → Slid at w test f l (put l' (count test k) (f k)) (k + 1)
    slid_move e h = record {
      size = length_put t l' (count test k) (f k) ∙ s.size;
      done = λ j b p. go j (against j k) b p;
      ahead = λ j b c. at_put_other t l' (count test k) (f k) here j (rw s.size c) (λ z. omega (arith, count_below test k)) ∙ s.ahead j (omega arith) c;
    }
      where
        here : count test k < length l' / w
        here = rw s.size (omega (arith, count_below test k))

        go : (j : ℕ) → Against j k → j < k + 1 → test j ≡ true → at (put l' (count test k) (f k)) (count test j) ≡ f j
        go j (less b) _ p = at_put_other t l' (count test k) (f k) here (count test j) (omega (arith, here, count_less test j k b p)) (λ z. omega (arith, count_less test j k b p)) ∙ s.done j b p
        go j (equal i) _ p = rw i (at_put t l' (count test k) (f k) here)
        go j (more b) c p = absurd (omega arith)

    -- at the end the table begins with what passes
    pub slid_end : A → up_to (at l') (count test k) ≡ sift test f k
    slid_end d = ext_get_or d (up_to (at l') (count test k)) (sift test f k) (length_up_to (at l') (count test k) ∙ sym (sift_length test f k)) (λ x h. each (rw (length_up_to (at l') (count test k)) at h))
      where
        each : {x : ℕ} → x < count test k → get_or (up_to (at l') (count test k)) x d ≡ get_or (sift test f k) x d
        each {x} h =
            let o = count_from test k x h in
            up_to_at (at l') (count test k) x d h
            ∙ ap (at l') (sym o.is)
            ∙ s.done o.place o.there o.passes
            ∙ sym (sift_at test f k o.place d o.there o.passes)
            ∙ ap (λ (y : ℕ). get_or (sift test f k) y d) o.is

-- The colours are those of Algorithm 2 (000; 01, "Opening"), told by its rule and not by a search, and no other colouring follows that rule.
use mathlib.Core.Path.{◌≡◌, refl, sym, ap, subst, ◌∙◌}
use mathlib.Core.Bool.{Bool, true, false, true≢false}
use mathlib.Core.List.{List}
use Prim.Native.Nat.{ℕ, zero, suc, ◌≤◌, ◌<◌}
use native.Mathlib.Decide.{dec_le}
use native.Mathlib.Omega.{arith}
use lib.ListN.{length, get_or, take}
use lib.Seq.{get_or-take}
use Rattle.intake.specs.Cells.{Cells}
use Rattle.intake.specs.Search.{free}
use Rattle.intake.specs.Causes.{vertex, has}
use Rattle.opening.specs.Colours.{taken, colours, colour_of}
use Rattle.opening.proofs.laws.Free.{free_taken, free_not, free_only}
use Rattle.opening.proofs.laws.Colours.{taken_has, taken_some, has_place, has_some, colours_at, colour_most}
use Rattle.opening.proofs.laws.Proper.{colours_only}
use Rattle.opening.specs.Greedy.{Had, Greedy}

-- ---- a neighbour by its places and by the test of the search

module _ (E : Cells) (painted : List ℕ) (v x : ℕ) (colour : ℕ → ℕ) (same : (u : ℕ) → u < v → get_or painted u 0 ≡ colour u) where
  had_taken : Had E colour v x → taken E painted v x ≡ true
  had_taken h =
      let n = h.neighbour in
      taken_has E painted v x (record {
        element = n.element;
        place = n.other;
        there = n.there;
        four = n.other_in;
        holds = subst (λ (w : ℕ). has E n.element w ≡ true) n.place_is (has_place E n.element n.place n.place_in);
        less = omega (arith, n.other_is, n.less);
        colour = ap (λ (w : ℕ). get_or painted w 0) n.other_is ∙ same h.by n.less ∙ h.is;
      })

  taken_had : taken E painted v x ≡ true → Had E colour v x
  taken_had t =
      let n = taken_some E painted v x t in
      let (q, low, is) = has_some E n.element v n.holds in
      record {
        by = vertex E n.element n.place;
        neighbour = record { element = n.element; place = q; other = n.place; there = n.there; place_in = low; other_in = n.four; place_is = is; other_is = refl; less = n.less };
        is = sym (same (vertex E n.element n.place) n.less) ∙ n.colour;
      }

-- ---- the colours follow the rule

module _ (E : Cells) (n : ℕ) where
  abbrev given : ℕ → ℕ
  given v = get_or (colours E n) v 0

  earlier : (v : ℕ) → v < n → (u : ℕ) → u < v → get_or (colours E v) u 0 ≡ given u
  earlier v h u l = colours_at E v u l ∙ sym (colours_at E n u (omega arith))

  -- no neighbour of smaller number has the colour of v, and each smaller colour is had by one (000, Algorithm 2)
  pub colours_greedy : Greedy E n given
  colours_greedy = record { free = free_of; least = λ v h x l. taken_had E (colours E v) v x given (earlier v h) (free_taken (taken E (colours E v) v) v x (rw (colours_at E n v h) at l)) }
    where
      free_of : (v : ℕ) → v < n → Had E given v (given v) → ⊥
      free_of v h m =
          let u = m.by in
          let e = colours_at E n v h in
          let t = had_taken E (colours E v) v (given v) given (earlier v h) m in
          let low : colour_of E v < v = omega (arith, e, m.is, colours_at E n u (omega (arith, m.neighbour.less)), colour_most E u, m.neighbour.less) in
          true≢false (sym (rw e at t) ∙ free_not (taken E (colours E v) v) v low)

-- ---- and nothing else does

module _ (E : Cells) (n : ℕ) (colour : ℕ → ℕ) (g : Greedy E n colour) where
  -- so many colours are in use before v at most
  greedy_below : (b v : ℕ) → v < b → v < n → colour v ≤ v
  greedy_below zero v l h = absurd (omega arith)
  greedy_below (suc b) v l h = go (dec_le (colour v) v) (greedy_below b)
    where
      go : Dec (colour v ≤ v) → ((u : ℕ) → u < b → u < n → colour u ≤ u) → colour v ≤ v
      go (yes y) ih = y
      go (no x) ih = let m = g.least v h v (omega arith) in absurd (omega (arith, m.is, m.neighbour.less, ih m.by (omega (arith, m.neighbour.less)) (omega (arith, m.neighbour.less))))

  greedy_free : (painted : List ℕ) (v : ℕ) → v < n → ((u : ℕ) → u < v → get_or painted u 0 ≡ colour u) → free (taken E painted v) v ≡ colour v
  greedy_free painted v h same = free_only (taken E painted v) v (colour v) (greedy_below (suc v) v (omega arith) h) (λ x l. had_taken E painted v x colour same (g.least v h x l)) (λ l. out (taken E painted v (colour v)) refl)
    where
      out : (b : Bool) → taken E painted v (colour v) ≡ b → b ≡ false
      out true t = absurd (g.free v h (taken_had E painted v (colour v) colour same t))
      out false t = refl

-- a list of colours that follow the rule of Algorithm 2 is the list of colours (000, Algorithm 2 has one result)
pub greedy_only : (E : Cells) (n : ℕ) (cs : List ℕ) → length cs ≡ n → Greedy E n (λ v. get_or cs v 0) → cs ≡ colours E n
greedy_only E n cs s g = colours_only E n cs s (λ v h. sym (greedy_free E n (λ v. get_or cs v 0) g (take v cs) v h (λ u l. get_or-take v cs u 0 l)))

-- two colourings that follow it agree on all vertices
pub greedy_same : (E : Cells) (n : ℕ) (colour : ℕ → ℕ) → Greedy E n colour → (v : ℕ) → v < n → colour v ≡ get_or (colours E n) v 0
greedy_same E n colour g v h = upto (suc v) v (omega arith) h
  where
    upto : (b v : ℕ) → v < b → v < n → colour v ≡ get_or (colours E n) v 0
    upto zero v l h = absurd (omega arith)
    upto (suc b) v l h = sym (greedy_free E n colour g (colours E v) v h (λ u k. colours_at E v u k ∙ sym (colours_at E n u (omega arith)) ∙ sym (upto b u (omega arith) (omega arith)))) ∙ sym (colours_at E n v h)

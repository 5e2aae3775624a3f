-- A walk along the chain of v sets the flags of its smaller neighbours' colours, and no others.
use mathlib.Core.Path.{◌≡◌, refl, sym, ◌∙◌, ap}
use mathlib.Core.Bool.{Bool, true, false, cond, true≢false}
use mathlib.Core.List.{List, [], ◌∷◌}
use Prim.Native.Nat.{ℕ, zero, suc, ◌+◌, ◌*◌, ◌/◌, ◌%◌, ◌-◌, ◌≤◌, ◌<◌}
use native.Mathlib.Decide.{dec_lt, ℕ_discrete}
use native.Mathlib.Omega.{arith}
use borrow.Author.Tests.{lt-ltb, le-ltb}
use lib.Dec.{ltb}
use lib.ListN.{length, get_or, set, length-set, get_or-replicate, get_or-eq_default}
use lib.Seq.{get_or-set_same, get_or-set_other}
use Rattle.chain.specs.Chain.{latest}
use Rattle.chain.proofs.laws.Walk.{latest_between, latest_below, latest_some}
use Rattle.chain.proofs.laws.Index.{next_link}
use Rattle.intake.specs.Cells.{Cells, four_of}
use Rattle.intake.specs.declared.grid.Four.{Four}
use Rattle.intake.specs.Causes.{vertex, has}
use Rattle.opening.specs.Colours.{taken, colours}
use Rattle.opening.specs.Scratch.{links_at, slot, colour_in, Plain, Ready, Painted, no_flags, marked, marked_all, Marks}
use Rattle.opening.proofs.laws.Colours.{Neighbour, taken_has, taken_some, has_place, has_some}

-- ---- one mark

-- storing a again leaves every a in place
set_keeps : (l : List Bool) (i j : ℕ) (a d : Bool) → get_or l j d ≡ a → get_or (set l i a) j d ≡ a
set_keeps [] i j a d e = e
set_keeps (x ∷ l) zero zero a d e = refl
set_keeps (x ∷ l) zero (suc j) a d e = e
set_keeps (x ∷ l) (suc i) zero a d e = e
set_keeps (x ∷ l) (suc i) (suc j) a d e = set_keeps l i j a d e

module _ (paint : List ℕ) (v u : ℕ) (flags : List Bool) where
  -- the three ways through the code
  pub marked_not : v ≤ u → flags ≡ marked paint v u flags
  unfolding marked
  marked_not h = rw (le-ltb u v h)

  pub marked_set : {c : ℕ} → u < v → c ≡ colour_in paint u → set flags c true ≡ marked paint v u flags
  unfolding marked
  marked_set h e = rw (lt-ltb u v h, e)

  -- what it does to the flags
  marked_length : length (marked paint v u flags) ≡ length flags
  unfolding marked
  marked_length = go (ltb u v)
    where
      go : (b : Bool) → length (cond b (set flags (colour_in paint u) true) flags) ≡ length flags
      go true = rw length-set
      go false = refl

  marked_here : u < v → colour_in paint u < length flags → get_or (marked paint v u flags) (colour_in paint u) false ≡ true
  marked_here h l = rw (← marked_set h refl, get_or-set_same)

  -- every other flag is as it was
  marked_other : (c : ℕ) → (u < v → colour_in paint u ≡ c → ⊥) → get_or (marked paint v u flags) c false ≡ get_or flags c false
  marked_other c d = go (dec_lt u v)
    where
      go : Dec (u < v) → get_or (marked paint v u flags) c false ≡ get_or flags c false
      go (yes h) = rw (← marked_set h refl) (get_or-set_other flags (colour_in paint u) c true false (λ e. d h (sym e)))
      go (no h) = rw (← marked_not (omega arith))

  -- and a flag that is set stays set
  marked_keeps : (c : ℕ) → get_or flags c false ≡ true → get_or (marked paint v u flags) c false ≡ true
  unfolding marked
  marked_keeps c e = go (ltb u v)
    where
      go : (b : Bool) → get_or (cond b (set flags (colour_in paint u) true) flags) c false ≡ true
      go true = set_keeps flags (colour_in paint u) c true false e
      go false = e

-- ---- the four marks of an element

-- a smaller vertex has a colour that there is a flag for
pub painted_low : {E : Cells} {paint : List ℕ} {v : ℕ} (u : ℕ) → Painted E v paint → u < v → colour_in paint u < 64
painted_low u p h = omega (arith, p.colour u, p.small u h)

pub marked_four : (E : Cells) (paint : List ℕ) (v k : ℕ) {w : Four} {p q r t : ℕ} (f₀ : List Bool) {f₁ f₂ f₃ f₄ : List Bool} → w ≡ four_of E k → p ≡ w.a → f₁ ≡ marked paint v p f₀ → q ≡ w.b → f₂ ≡ marked paint v q f₁ → r ≡ w.c → f₃ ≡ marked paint v r f₂ → t ≡ w.d → f₄ ≡ marked paint v t f₃ → f₄ ≡ marked_all E paint v k f₀
unfolding marked_all four_of
marked_four E paint v k f e a h b i c j d l = rw (l, d, j, c, i, b, h, a, e)

module _ (E : Cells) (paint : List ℕ) (v k : ℕ) where
  -- what each of them keeps, all four keep
  marked_all_lem : (P : List Bool → Type 0) → ((q : ℕ) → q < 4 → (flags : List Bool) → P flags → P (marked paint v (vertex E k q) flags)) → (flags : List Bool) → P flags → P (marked_all E paint v k flags)
  unfolding marked_all
  marked_all_lem P step flags p = step 3 (omega arith) _ (step 2 (omega arith) _ (step 1 (omega arith) _ (step 0 (omega arith) flags p)))

-- the flags show the colours of the smaller vertices of element k
abbrev Shown : Cells → List ℕ → ℕ → ℕ → List Bool → Type 0
Shown E paint v k flags = (q : ℕ) → q < 4 → vertex E k q < v → get_or flags (colour_in paint (vertex E k q)) false ≡ true

-- there are 64 flags, and each that is set shows the colour of a smaller neighbour
record Sound (E : Cells) (v : ℕ) (flags : List Bool) : Type 0 where
  size : length flags ≡ 64
  only : (c : ℕ) → get_or flags c false ≡ true → taken E (colours E v) v c ≡ true

-- a walk that is at `at`: the slots of v from there on are behind it
pub record Walked (E : Cells) (paint : List ℕ) (v at : ℕ) (flags : List Bool) : Type 0 where
  pub below : at ≤ 4 * E.count
  here : 0 < at → slot E (at - 1) ≡ v
  sound : Sound E v flags
  past : (i : ℕ) → at ≤ i → i < 4 * E.count → slot E i ≡ v → Shown E paint v (i / 4) flags

-- the element at which the walk is holds v, so its marks are sound, and it is shown
module _ (E : Cells) (paint : List ℕ) (v k : ℕ) (painted : Painted E v paint) where
  sound_step : k < E.count → has E k v ≡ true → (flags : List Bool) → Sound E v flags → Sound E v (marked_all E paint v k flags)
  sound_step there holds = marked_all_lem E paint v k (Sound E v) (λ q h f r. record { size = marked_length paint v (vertex E k q) f ∙ r.size; only = λ c d. go q h f r c d (dec_lt (vertex E k q) v) (ℕ_discrete (colour_in paint (vertex E k q)) c) })
    where
      go : (q : ℕ) → q < 4 → (f : List Bool) → Sound E v f → (c : ℕ) → get_or (marked paint v (vertex E k q) f) c false ≡ true → Dec (vertex E k q < v) → Dec (colour_in paint (vertex E k q) ≡ c) → taken E (colours E v) v c ≡ true
      go q h f r c d (yes l) (yes e) = taken_has E (colours E v) v c (record { element = k; place = q; there = there; four = h; holds = holds; less = l; colour = sym (painted.colour (vertex E k q)) ∙ e })
      go q h f r c d (yes l) (no e) = r.only c (sym (marked_other paint v (vertex E k q) f c (λ i. e)) ∙ d)
      go q h f r c d (no l) e = r.only c (sym (marked_other paint v (vertex E k q) f c (λ i. absurd (l i))) ∙ d)

  shown_step : (flags : List Bool) → length flags ≡ 64 → Shown E paint v k (marked_all E paint v k flags)
  unfolding marked_all
  shown_step flags s = go
    where
      put : (q : ℕ) (f : List Bool) → length f ≡ 64 → vertex E k q < v → get_or (marked paint v (vertex E k q) f) (colour_in paint (vertex E k q)) false ≡ true
      put q f s l = marked_here paint v (vertex E k q) f l (omega (arith, painted.colour (vertex E k q), painted.small (vertex E k q) l))

      long : (q : ℕ) (f : List Bool) → length f ≡ 64 → length (marked paint v (vertex E k q) f) ≡ 64
      long q f s = marked_length paint v (vertex E k q) f ∙ s

      keep : (q : ℕ) (f : List Bool) (c : ℕ) → get_or f c false ≡ true → get_or (marked paint v (vertex E k q) f) c false ≡ true
      keep q = marked_keeps paint v (vertex E k q)

      go : (q : ℕ) → q < 4 → vertex E k q < v → get_or (marked_all E paint v k flags) (colour_in paint (vertex E k q)) false ≡ true
      go zero h l = keep 3 _ _ (keep 2 _ _ (keep 1 _ _ (put 0 flags s l)))
      go (suc zero) h l = keep 3 _ _ (keep 2 _ _ (put 1 _ (long 0 flags s) l))
      go (suc (suc zero)) h l = keep 3 _ _ (put 2 _ (long 1 _ (long 0 flags s)) l)
      go (suc (suc (suc zero))) h l = put 3 _ (long 2 _ (long 1 _ (long 0 flags s))) l
      go (suc (suc (suc (suc q)))) h l = absurd (omega arith)

-- what is shown stays
shown_kept : (E : Cells) (paint : List ℕ) (v k j : ℕ) (flags : List Bool) → Shown E paint v k flags → Shown E paint v k (marked_all E paint v j flags)
shown_kept E paint v k j flags s q h l = marked_all_lem E paint v j (λ f. get_or f (colour_in paint (vertex E k q)) false ≡ true) (λ p b f e. marked_keeps paint v (vertex E j p) f _ e) flags (s q h l)

-- ---- the walk

slot_has : (E : Cells) (v i : ℕ) → slot E i ≡ v → has E (i / 4) v ≡ true
slot_has E v i e = rw e at (has_place E (i / 4) (i % 4) (omega arith))

module _ {E : Cells} {paint : List ℕ} {v : ℕ} where
  -- what is left of the walk are the places of v below n
  walked_to : (n at : ℕ) {flags : List Bool} → n ≤ 4 * E.count → at ≡ latest (slot E) v n → Sound E v flags → ((i : ℕ) → n ≤ i → i < 4 * E.count → slot E i ≡ v → Shown E paint v (i / 4) flags) → Walked E paint v at flags
  walked_to n at {flags} h e s past = record { below = omega (arith, latest_below (slot E) v n); here = λ l. (latest_some (slot E) v n (at - 1) (omega arith)).1; sound = s; past = λ i l m k. go i l m k (dec_lt i n) }
    where
      go : (i : ℕ) → at ≤ i → i < 4 * E.count → slot E i ≡ v → Dec (i < n) → Shown E paint v (i / 4) flags
      go i l m k (yes b) = absurd (latest_between (slot E) v n i (omega arith) b k)
      go i l m k (no b) = past i (omega arith) m k

  -- at the head nothing is behind the walk, and no flag is set
  pub walked_start : {vertices at : ℕ} {index : List ℕ} {flags : List Bool} → Plain vertices E → Ready E index → v < vertices → at ≡ get_or index v 0 → flags ≡ no_flags → Walked E paint v at flags
  walked_start {at = at} {flags} p r h e f = walked_to (4 * E.count) at (omega arith) (e ∙ r.index.heads v (omega (arith, p.most))) (record { size = ap length f; only = λ c d. absurd (true≢false (sym d ∙ ap (λ (l : List Bool). get_or l c false) f ∙ clear c (dec_lt c 64))) }) (λ i l m k. absurd (omega arith))
    where
      clear : (c : ℕ) → Dec (c < 64) → get_or no_flags c false ≡ false
      clear c (yes l) = get_or-replicate 64 c false false l
      clear c (no l) = get_or-eq_default no_flags false {n = c} (omega arith)

  module _ {vertices at : ℕ} {index : List ℕ} {flags : List Bool} (p : Plain vertices E) (r : Ready E index) (c : Painted E v paint) (w : Walked E paint v at flags) (more : 0 < at) where
    -- the next place is smaller
    pub walked_less : {next : ℕ} → next ≡ get_or index (links_at + (at - 1)) 0 → next < at
    walked_less e = omega (arith, next_link r.index (omega (arith, w.below)) (w.here more), latest_below (slot E) v (at - 1))

    pub walked_step : {next : ℕ} {after : List Bool} → next ≡ get_or index (links_at + (at - 1)) 0 → after ≡ marked_all E paint v ((at - 1) / 4) flags → Walked E paint v next after
    walked_step {next} e f = rw f (walked_to (at - 1) next (omega (arith, w.below)) (e ∙ next_link r.index (omega (arith, w.below)) (w.here more)) (sound_step E paint v ((at - 1) / 4) c there holds flags w.sound) (λ i l m k. go i l m k (ℕ_discrete i (at - 1))))
      where
        there : (at - 1) / 4 < E.count
        there = omega (arith, w.below)

        holds : has E ((at - 1) / 4) v ≡ true
        holds = slot_has E v (at - 1) (w.here more)

        go : (i : ℕ) → at - 1 ≤ i → i < 4 * E.count → slot E i ≡ v → Dec (i ≡ at - 1) → Shown E paint v (i / 4) (marked_all E paint v ((at - 1) / 4) flags)
        go i l m k (yes e) = rw e (shown_step E paint v ((at - 1) / 4) c flags w.sound.size)
        go i l m k (no d) = shown_kept E paint v (i / 4) ((at - 1) / 4) flags (w.past i (omega arith) m k)

  -- a walk that is done has set the flag of every taken colour
  pub walked_done : {vertices at : ℕ} {flags : List Bool} → Plain vertices E → Painted E v paint → Walked E paint v at flags → at ≤ 0 → Marks E v flags
  walked_done {vertices} {at} {flags} p c w l = record { size = w.sound.size; set = λ d h. go d (get_or flags d false) refl }
    where
      met : (d : ℕ) → Neighbour E (colours E v) v d → get_or flags d false ≡ true
      met d n =
          let q = has_some E n.element v n.holds in
          let i = 4 * n.element + q.0 in
          let e : i / 4 ≡ n.element = omega (arith, q.1) in
          let place : i % 4 ≡ q.0 = omega (arith, q.1) in
          let u = vertex E n.element n.place in
          let k : colour_in paint u ≡ d = c.colour u ∙ n.colour in
          rw (← k) ((rw e at (w.past i (omega arith) (omega (arith, n.there, q.1)) (rw (e, place) q.2))) n.place n.four n.less)

      none : (d : ℕ) → get_or flags d false ≡ false → (b : Bool) → taken E (colours E v) v d ≡ b → b ≡ false
      none d z true t = sym (met d (taken_some E (colours E v) v d t)) ∙ z
      none d z false t = refl

      go : (d : ℕ) (b : Bool) → get_or flags d false ≡ b → taken E (colours E v) v d ≡ get_or flags d false
      go d true e = w.sound.only d e ∙ sym e
      go d false e = none d e (taken E (colours E v) v d) refl ∙ sym e

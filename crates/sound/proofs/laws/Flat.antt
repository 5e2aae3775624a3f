-- What stands at a place of a flat table, and lists made by number.
use mathlib.Core.Path.{◌≡◌, sym, ap, ◌∙◌}
use mathlib.Core.List.{List, [], ◌∷◌, map}
use Prim.Native.Nat.{ℕ, zero, suc, ◌+◌, ◌*◌, ◌≤◌, ◌<◌}
use native.Mathlib.Nat.{mul-zero, mul-suc, zero-add}
use native.Mathlib.Omega.{arith}
use lib.ListN.{length, get_or, take, length-map, get_or-append, get_or-map}
use lib.Seq.{get_or-append-add, get_or-take, length-take-le, take_all, ext_get_or}
use Rattle.tables.specs.Mesh.{up_to, flat}
use Rattle.tables.proofs.laws.View.{length_up_to, up_to_at}

-- the q-th number of the k-th thing
pub flat_at : {A B : Type 0} (cells : A → List B) (w : ℕ) → ((x : A) → length (cells x) ≡ w) → (xs : List A) (k q : ℕ) (d : A) (z : B) → k < length xs → q < w → get_or (flat cells xs) (w * k + q) z ≡ get_or (cells (get_or xs k d)) q z
unfolding flat
flat_at cells w h [] k q d z l m = absurd (omega arith)
flat_at cells w h (x ∷ xs) zero q d z l m = rw (mul-zero w, zero-add q) (get_or-append (cells x) (flat cells xs) z q (omega (arith, h x)))
flat_at cells w h (x ∷ xs) (suc k) q d z l m =
    let e : w * suc k + q ≡ length (cells x) + (w * k + q) = rw (mul-suc w k, h x) (omega arith) in
    rw (e, get_or-append-add (cells x) (flat cells xs) (w * k + q) z) (flat_at cells w h xs k q d z (omega arith) m)

module _ {A : Type 0} (f : ℕ → A) (n : ℕ) where
  pub take_up_to : take n (up_to f n) ≡ up_to f n
  take_up_to = take_all n (up_to f n) (omega (arith, length_up_to f n))

  -- a list that has f k at each k is it
  up_to_only : (d : A) (xs : List A) → length xs ≡ n → ((k : ℕ) → k < n → get_or xs k d ≡ f k) → xs ≡ up_to f n
  up_to_only d xs e h = ext_get_or d xs (up_to f n) (e ∙ sym (length_up_to f n)) (λ k l. let b : k < n = omega arith in h k b ∙ sym (up_to_at f n k d b))

  pub up_to_same : (d : A) (g : ℕ → A) → ((k : ℕ) → k < n → g k ≡ f k) → up_to g n ≡ up_to f n
  up_to_same d g h = up_to_only d (up_to g n) (length_up_to g n) (λ k l. up_to_at g n k d l ∙ h k l)

  -- a change that changes none of them
  pub map_up_to : (d : A) (change : A → A) → ((k : ℕ) → k < n → change (f k) ≡ f k) → map change (up_to f n) ≡ up_to f n
  map_up_to d change h =
      up_to_only (change d) (map change (up_to f n)) (length-map (up_to f n) change ∙ length_up_to f n)
      (λ k l. get_or-map change (up_to f n) k d ∙ ap change (up_to_at f n k d l) ∙ h k l)

module _ {A : Type 0} (f : ℕ → A) where
  -- the front of a list made by number
  pub up_to_front : (i n : ℕ) → i ≤ n → take i (up_to f n) ≡ up_to f i
  up_to_front i n h =
      up_to_only f i (f 0) (take i (up_to f n)) (length-take-le i (up_to f n) (omega (arith, length_up_to f n)))
      (λ k l. get_or-take i (up_to f n) k (f 0) l ∙ up_to_at f n k (f 0) (omega arith))

  pub up_to_map : {B : Type 0} (change : A → B) (n : ℕ) → map change (up_to f n) ≡ up_to (λ k. change (f k)) n
  up_to_map change n =
      up_to_only (λ k. change (f k)) n (change (f 0)) (map change (up_to f n)) (length-map (up_to f n) change ∙ length_up_to f n)
      (λ k l. get_or-map change (up_to f n) k (f 0) ∙ ap change (up_to_at f n k (f 0) l))

  -- equal lists are equal at each place
  pub up_to_each : (g : ℕ → A) (n : ℕ) → up_to g n ≡ up_to f n → (k : ℕ) → k < n → g k ≡ f k
  up_to_each g n e k h = sym (up_to_at g n k (f 0) h) ∙ ap (λ (l : List A). get_or l k (f 0)) e ∙ up_to_at f n k (f 0) h

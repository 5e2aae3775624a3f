-- Clause 6: equal floats.
use mathlib.Core.Path.{◌≡◌, refl, sym, ap, ◌∙◌}
use mathlib.Core.Bool.{Bool, true, true≢false}
use lib.Dec.{eqb}
use lib.Ieee.{Float, nan, inf, fin, binary64, fits, is_nan, of_bits, to_bits}
use lib.Ieee.Bits.{of_bits-to_bits}
use borrow.Author.Tests.{eqb-true, eqb-false}
use denote.Floats.{passes}
use Rattle.sound.specs.Check.{Decides}

-- there is one NaN
one_nan : (x : Float) → is_nan x ≡ true → x ≡ nan
unfolding is_nan
one_nan nan e = refl
one_nan (inf s) e = absurd (true≢false (sym e))
one_nan (fin s m d) e = absurd (true≢false (sym e))

module _ (x y : Float) where
  pub same_nan : {r : Bool} → is_nan x ≡ true → r ≡ is_nan y → Decides (x ≡ y) r
  same_nan e q = record {
    yes = λ f. one_nan x e ∙ sym (one_nan y (sym q ∙ f));
    no = λ f p. true≢false (sym e ∙ ap is_nan p ∙ sym q ∙ f);
  }

  -- a value that fits its format is read back from its bits
  pub same_bits : fits binary64 x ≡ true → fits binary64 y ≡ true → Decides (x ≡ y) (eqb (to_bits binary64 x) (to_bits binary64 y))
  same_bits f g = record {
    yes = λ e. sym (of_bits-to_bits binary64 x (passes _ f)) ∙ ap (of_bits binary64) (eqb-true _ _ e) ∙ of_bits-to_bits binary64 y (passes _ g);
    no = λ e p. eqb-false _ _ e (ap (to_bits binary64) p);
  }

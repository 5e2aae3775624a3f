-- How programs show numbers, coordinates and whether tables are sound.
use Rattle.std.specs.Prelude.{List, [], ◌∷◌, ◌-◌, ◌^◌, ℕ, Bool, Float, cond, is_nan, false}
use Rattle.std.specs.Fmt.{decimal, digits, format_spec, padded_integral}
use Rattle.std.specs.Float.Ieee.{binary64, to_bits}
use Rattle.std.specs.List.{flat_map}
use lib.Chars.{codes}

-- the numbers in decimal, each after a space
unfoldable pub numbers_text : List ℕ → List ℕ
numbers_text ns = flat_map (λ n. 32 ∷ decimal n) ns

-- a number in hexadecimal, filled with zeros to sixteen digits: as `{:016x}` writes it (no fill of its own, no side, zeros, sixteen, no precision)
abbrev pub sixteen_text : ℕ → List ℕ
sixteen_text n = padded_integral (format_spec 32 0 4 16 (2 ^ 64 - 1)) false [] (digits 16 false n)

-- a coordinate by its bit pattern; a NaN has none
unfoldable pub bits_text : Float → List ℕ
bits_text x = cond (is_nan x) (codes "nan") (sixteen_text (to_bits binary64 x))

-- the coordinates, each after a space
unfoldable pub coordinates_text : List Float → List ℕ
coordinates_text xs = flat_map (λ x. 32 ∷ bits_text x) xs

-- whether tables are sound
abbrev pub yes_no_text : Bool → List ℕ
yes_no_text b = cond b (codes "yes") (codes "no")

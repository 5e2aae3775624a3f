use Rattle.std.proofs.Common.{◌≡◌, ℕ, ◌+◌, ◌-◌, ◌≤◌, List, ◌++◌, rules, length, take, sym, ap, ◌∙◌, subst, le_refl, drop_at, length-take-le}
use Rattle.std.proofs.lemmas.Slice.{take-put_mid_below}
use Rattle.std.specs.Io.KnownBytes.{Consumes}
use Rattle.std.proofs.KnownBytes.{Consumes-trans}
use borrow.Rule.Slice.PartMut.{put_mid, post_of}
use lib.Seq.{take-add, take-append-le}
use Rattle.programs.proofs.input.read_full.Goals as goal

-- n numbers of ys stand after the first a of xs where ys was put there
take-put_mid_more : (a k n : ℕ) (xs ys : List ℕ) → a ≤ length xs → n ≤ length ys → take (a + n) (put_mid a k xs ys) ≡ take a xs ++ take n ys
take-put_mid_more a k n xs ys within fits =
    let front = take-put_mid_below a k xs ys a (le_refl a) within in
    let back = ap (take n) (drop_at (take a xs) (ys ++ post_of a k xs) a (length-take-le a xs within)) ∙ take-append-le n ys (post_of a k xs) fits in
    take-add a n (put_mid a k xs ys) ∙ cc

pub loop-n-preserved : goal.loop-n-preserved
loop-n-preserved g c =
    let l = c.loop-n in
    let filled = take-put_mid_more l.n (length l.buffer - l.n) c.in_ok-more.more l.buffer c.read.new.buf l.invariant.within c.in_ok-more.ensures.bound.0 in
    record {
      within = search rules;
      size = search rules;
      bytes = subst (Consumes _ _) (sym filled) (Consumes-trans _ _ _ _ _ l.invariant.bytes c.in_ok-more.ensures.bytes.0);
    }

-- Two outcomes that meet a promise are equal. `Learnt` is the promise itself, as the check reads it off the function's contract, and `s.0` is the lent table at exit.
use mathlib.Core.Path.{◌≡◌, sym, ◌∙◌}
use Rattle.chain.proofs.clear.Reads as clear
use Rattle.chain.proofs.push.Reads as push
use Rattle.chain.proofs.put.Reads as put
use Rattle.chain.proofs.wide.Reads as wide

pub push_determined : (κs : _) (a : _) (r r' : _) (s s' : _) → push.Learnt κs a r s → push.Learnt κs a r' s' → s.0.now ≡ s'.0.now
push_determined κs a r r' s s' p q = p ∙ sym q

pub wide_determined : (κs : _) (a : _) (r r' : _) (s s' : _) → wide.Learnt κs a r s → wide.Learnt κs a r' s' → r ≡ r'
wide_determined κs a r r' s s' p q = p ∙ sym q

pub put_determined : (κs : _) (a : _) (r r' : _) (s s' : _) → put.Learnt κs a r s → put.Learnt κs a r' s' → s.0.now ≡ s'.0.now
put_determined κs a r r' s s' p q = p ∙ sym q

pub clear_determined : (κs : _) (a : _) (r r' : _) (s s' : _) → clear.Learnt κs a r s → clear.Learnt κs a r' s' → s.0.now ≡ s'.0.now
clear_determined κs a r r' s s' p q = p ∙ sym q

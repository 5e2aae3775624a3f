-- What the parts of the printer leave in the buffer. Nothing here is promised to callers.
use Rattle.std.specs.Prelude.{◌≡◌, List, ℕ, ◌+◌, ◌≤◌, ◌<◌, length}
use Rattle.std.proofs.lemmas.List.Edits.{sets}
use Rattle.text.specs.declared.put.Page.{Page}

-- there is room for w bytes from place `at` on
pub record Room (w at : ℕ) : Type 0 where
  pub fits : at + w ≤ 262144

-- the text, of w bytes at most, stands in the buffer from place `at` on; e is where it ends
pub record Puts (w : ℕ) (out : List ℕ) (at : ℕ) (text out' : List ℕ) (e : ℕ) : Type 0 where
  pub stores : out' ≡ sets out at text
  pub ends : e ≡ at + length text
  pub few : length text ≤ w

-- the same of a page, which stays the one on the lent buffer
pub record Adds (w : ℕ) (p : Page) (text : List ℕ) (p' : Page) : Type 0 where
  pub same : p'.out.ghost_name ≡ p.out.ghost_name
  pub puts : Puts w p.out.now p.at text p'.out.now p'.at

pub record Spells (base short places at : ℕ) : Type 0 where
  pub some : 0 < base
  pub low : base ≤ 16
  pub short_low : short ≤ 16
  pub room : Room places at

-- What was read into a buffer.
use Rattle.std.specs.Prelude.{◌≡◌, ℕ, ◌≤◌, ◌<◌, List, length, take, Option}
use Rattle.std.specs.Io.KnownBytes.{Consumes, IsAtEnd}

-- the first n bytes of the buffer, which holds so many, were read, and fewer than it holds only at the end of the input
pub record ReadsInto (old new : Option (List ℕ)) (room : ℕ) (buffer : List ℕ) (n : ℕ) : Type 0 where
  pub size : length buffer ≡ room
  pub within : n ≤ room
  pub bytes : Consumes old new (take n buffer)
  pub end : n < room → IsAtEnd new

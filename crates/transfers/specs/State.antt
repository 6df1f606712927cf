-- What the search holds, for the contracts of its private methods.
use Rattle.std.specs.Prelude.{ℕ, List, ◌++◌, get_or}
use Rattle.transfers.specs.Search.{flags_of}
use Rattle.transfers.specs.declared.Search.{Search}

-- the flags that its masks hold
abbrev pub flags : Search → List ℕ
flags s = flags_of (s.masks.now ++ s.ahead.now)

-- what names the last writer of region g, and the ranks that read g ahead
abbrev pub source_of : Search → ℕ → ℕ
source_of s g = get_or s.last.now g 0

abbrev pub ahead_of : Search → ℕ → ℕ
ahead_of s g = get_or s.ahead.now g 0

-- A quoted text as its bytes. Definitions only.
use Rattle.std.specs.Prelude.{List, [] as none, ◌∷◌ as ◌next◌, ℕ}
use Prim.Native.Char.{code}
use Prim.Native.String.{String, [], ◌∷◌}

-- the codes of its characters; of ASCII characters, which all of ours are, these are the bytes
abbrev pub bytes : String → List ℕ
bytes [] = none
bytes (c ∷ text) = code c next bytes text

-- Readers of arguments.
use Rattle.std.specs.Prelude.{ℕ, List, map, string_bytes}
use Rattle.pile.specs.declared.arguments.Reader.{Reader}

-- the texts that a reader goes over
abbrev pub texts : Reader → List (List ℕ)
texts r = map string_bytes r.args.now

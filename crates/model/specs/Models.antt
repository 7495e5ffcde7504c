-- The bytes that a model reads. Assumes nothing.
use Rattle.std.specs.Prelude.{ℕ, List}
use Rattle.model.specs.declared.drafted.Drafted.{Drafted}
use Rattle.model.specs.declared.drafted.Settled.{Settled}

abbrev pub drafted_file : Drafted → List ℕ
drafted_file m = m.file.bytes.now

abbrev pub settled_file : Settled → List ℕ
settled_file m = drafted_file m.draft

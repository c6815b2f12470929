use Rattle.std.proofs.Common.{◌≡◌, ◌∷◌, map, string_bytes, codes, take}
use Rattle.clap.specs.Walk.{texts}
use Rattle.program_words.proofs.read.with_name.Given as goal

-- the words so far, behind the program's name
abbrev pub invariant-loop-word : goal.invariant-loop-word
invariant-loop-word l = texts l.all.items ≡ codes "tsqld" ∷ map string_bytes (take l.word-index l.words)

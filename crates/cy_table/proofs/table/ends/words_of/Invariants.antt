use Rattle.std.proofs.Common.{length}
use Rattle.cy_table.proofs.Laying.{WordsTo}
use Rattle.cy_table.proofs.table.ends.words_of.Given as goal

-- The words of the components so far.
abbrev pub invariant-loop-c : goal.invariant-loop-c
invariant-loop-c l = record { so_far : WordsTo l.c (length l.fn.parts.routines) l.fn.parts l.words.items }

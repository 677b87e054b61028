-- What is kept of a call.
use Rattle.std.specs.Prelude.{ℕ, ◌≡◌, List, [], ◌∷◌, Option, Some, None}
use Rattle.cy_msg.specs.declared.token.Tuple.{Tuple}
use Rattle.cy_msg.specs.declared.token.Tuple.TheVariants.{One, Two, Three, Four}
use Rattle.cy_comp.specs.declared.call.Call.{Call}
use Rattle.cy_comp.specs.declared.summary.CallSummary.{CallSummary}
use Rattle.cy_comp.specs.declared.summary.TupleSeqs.{TupleSeqs}
use Rattle.cy_comp.specs.declared.summary.TupleSeqs.TheVariants as seqs

-- The numbers of the messages of a tuple.
abbrev pub seqs_of : Tuple → TupleSeqs
seqs_of (One a) = seqs.One a.seq
seqs_of (Two a b) = seqs.Two a.seq b.seq
seqs_of (Three a b c) = seqs.Three a.seq b.seq c.seq
seqs_of (Four a b c d) = seqs.Four a.seq b.seq c.seq d.seq

abbrev pub numbers_of : TupleSeqs → List ℕ
numbers_of (seqs.One a) = a ∷ []
numbers_of (seqs.Two a b) = a ∷ b ∷ []
numbers_of (seqs.Three a b c) = a ∷ b ∷ c ∷ []
numbers_of (seqs.Four a b c d) = a ∷ b ∷ c ∷ d ∷ []

abbrev pub summary_of : Call → CallSummary
summary_of x = record {
  position = x.position;
  tail = x.tail;
  seqs = seqs_of x.tuple;
  out = x.out;
}

-- Of calls the first is summed up, and the others are left; or there are none.
abbrev pub SumsUpFirst : List Call → Option CallSummary → List Call → Type 0
SumsUpFirst calls None others = (calls ≡ []) × (others ≡ [])
SumsUpFirst calls (Some s) others = (x : Call) × (calls ≡ x ∷ others) × (s ≡ summary_of x)

-- The laws, from the lemmas on outputs.
use Rattle.std.proofs.Common.{ap, refl, ◌∙◌, List, length, slice_get}
use Rattle.cy_msg.specs.declared.token.Token.{Token}
use Rattle.cy_comp.specs.Calls.{outs}
use Rattle.wake_core.proofs.Taping.{unsent_is}
use Rattle.wake_core.proofs.Shown.{asked_unsent}
use Rattle.wake_core.proofs.Outputs.{outs_push, next_out, outs_but_last}
use Rattle.wake_core.proofs.laws.unsent.Goals as goal

pub returns : goal.returns
returns k = record {
  next = unsent_is;
  asked = asked_unsent;
  called = λ channel calls x.
      ap (λ (l : List Token). slice_get l (length (outs channel calls))) (outs_push channel calls x) ∙ next_out channel (outs channel calls) x.out (length (outs channel calls)) refl;
  one = outs_but_last;
}

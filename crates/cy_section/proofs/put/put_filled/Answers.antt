use Rattle.std.proofs.Common.{◌++◌, ◌∙◌, ap, length, arith}
use Rattle.std.proofs.lemmas.List.{length-append, length-replicate}
use Rattle.std.proofs.lemmas.Result.{on_ok_weaker}
use Rattle.cy_section.proofs.Lengths.{rest_of_zeros}
use Rattle.cy_section.proofs.put.put_filled.Goals as goal

pub returns : goal.returns
returns c =
    let cut = rest_of_zeros (length c.args.front.now) in
    let ok = on_ok_weaker c.append.result (λ e. e ∙ ap (λ zeros. c.args.to.now ++ (c.args.front.now ++ zeros)) cut) c.append.ensures.ok in
    record {
      ok = ok;
      grown = on_ok_weaker c.append.result (λ e. rw e (simp (length-append, length-replicate) (omega (arith, c.requires)))) ok;
      err = c.append.ensures.err;
      only_memory = c.append.ensures.only_memory;
    }

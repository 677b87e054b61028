use Rattle.std.proofs.Common.{◌≡◌, ◌∙◌, Some, ap, option_map, rules, sym, codes}
use Rattle.cy_msg.specs.Request.{OfFiles, stop_at_of}
use Rattle.cy_args.specs.FilterViews.{filter_of}
use Rattle.cy_args.specs.FilterWords.{◌>>=◌, filter_asked}
use Rattle.cy_args.specs.Options.{Options}
use Rattle.cy_args.specs.private.OptionViews.{table_of, values_of}
use Rattle.cy_args.specs.PlayWords.{play_given, stop_or_none}
use Rattle.cy_args.proofs.play_words.play_of.Goals as goal

pub returns : goal.returns
unfolding play_given
returns c =
    let o : Options = values_of (table_of c.args.known.now) c.args.values in
    let dag : Some c.in_ok-dag.dag.now ≡ o (codes "dag") = search rules in
    let input : Some c.in_ok-input.input.now ≡ o (codes "record") = search rules in
    let output : Some c.in_ok-output.output.now ≡ o (codes "out") = search rules in
    let trace : Some c.in_ok-trace.trace.now ≡ o (codes "trace") = search rules in
    let filter : Some (filter_of c.in_ok-wanted.wanted) ≡ filter_asked o = sym (ap (option_map filter_of) c.in_ok-wanted.was) ∙ c.filter_asked.ensures in
    let stop : Some (option_map stop_at_of c.in_ok-stop.stop) ≡ stop_or_none (o (codes "stop")) = sym (ap (option_map (option_map stop_at_of)) c.in_ok-stop.was) ∙ c.stop_asked.ensures in
    λ i. dag i >>= λ dag. input i >>= λ input. output i >>= λ output. trace i >>= λ trace. filter i >>= λ filter. stop i >>= λ stop.
    Some (record {
      request = record { components = OfFiles dag (c.value-sched.ensures i); input = input; filter = filter; stop = stop };
      output = output;
      trace = trace;
      serial = c.is_given-serial.ensures i;
    })

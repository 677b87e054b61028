use Rattle.std.proofs.Common.{◌≡◌, ◌<◌, ◌≤◌, ◌∙◌, ℕ, List, [], length, ap, sym, subst, arith, rules, inr, All}
use Rattle.std.specs.List.Sorted.{IsPermutation, IsSortedByKey}
use Rattle.std.specs.Ordering.{nat_cmp}
use Rattle.std.proofs.lemmas.List.Sorted.{length_permutation}
use Rattle.cy_msg.specs.Tokens.{AreOf}
use Rattle.cy_play_list.specs.declared.play.ChannelUse.{ChannelUse}
use Rattle.cy_reader.specs.declared.error.LoadError.TheVariants.{TooManyPlayed}
use Rattle.cy_play_list.specs.Play.{Choice, all_places, chosen, most_played, time_at, tokens_behind}
use Rattle.cy_play_list.specs.private.Uses.{number_by, value_from, played_by, shadowed_by}
use Rattle.cy_play_list.proofs.Playing.{played-is, places-inside, numbers-below, answered, timed, numbered, origins}
use Rattle.cy_play_list.proofs.play.play_list.Goals as goal

pub returns-then-len-gt-MOST_PLAYED : goal.returns-then-len-gt-MOST_PLAYED
returns-then-len-gt-MOST_PLAYED c =
    let whole = c.args.whole.now in
    let choice : Choice = record { names = c.args.names.now; filter = c.args.filter.now; written = c.args.written.now; values = c.args.values.now } in
    let uses = c.in_ok-uses.uses.items in
    let are = c.in_ok-uses.ensures.uses in
    let below = c.in_ok-places.ensures.below in
    let places = c.in_ok-places.field-0.places.items in
    let P : List ChannelUse → Type 0 = λ us. places ≡ played_by us c.args.filter.now whole (all_places whole) in
    let is : places ≡ chosen whole choice = subst P c.deref.ensures.value c.in_ok-places.ensures.passed.places ∙ played-is whole choice uses are below in
    let size : c.len-then-len-gt-MOST_PLAYED.result ≡ length places = search rules in
    let count : c.len-then-len-gt-MOST_PLAYED.result ≡ length (chosen whole choice) = size ∙ ap length is in
    let long : most_played < length places = search rules in
    record {
      list = tt;
      few = tt;
      refused = inr (subst (λ (ps : List ℕ). most_played < length ps) is long, ap TooManyPlayed count);
    }

pub tokens_of-requires-clause-numbers : goal.tokens_of-requires-clause-numbers
tokens_of-requires-clause-numbers c =
    let whole = c.args.whole.now in
    let choice : Choice = record { names = c.args.names.now; filter = c.args.filter.now; written = c.args.written.now; values = c.args.values.now } in
    let uses = c.in_ok-uses.uses.items in
    let are = c.in_ok-uses.ensures.uses in
    let below = c.in_ok-places.ensures.below in
    let places = c.in_ok-places.field-0.places.items in
    let P : List ChannelUse → Type 0 = λ us. places ≡ played_by us c.args.filter.now whole (all_places whole) in
    let is : places ≡ chosen whole choice = subst P c.deref.ensures.value c.in_ok-places.ensures.passed.places ∙ played-is whole choice uses are below in
    let all = numbers-below whole choice uses are c.requires c.count-count.ensures.once in
    let Q : ℕ → Type 0 = λ n. All (λ (u : ChannelUse). u.number < n) uses in
    subst (λ (us : List ChannelUse). All (λ (u : ChannelUse). u.number < c.count-count.result) us) (sym c.deref-2.ensures.value) (subst Q (sym c.count-count.ensures.count) all)

pub tokens_of-requires-clause-there : goal.tokens_of-requires-clause-there
tokens_of-requires-clause-there c =
    let whole = c.args.whole.now in
    let choice : Choice = record { names = c.args.names.now; filter = c.args.filter.now; written = c.args.written.now; values = c.args.values.now } in
    let uses = c.in_ok-uses.uses.items in
    let are = c.in_ok-uses.ensures.uses in
    let below = c.in_ok-places.ensures.below in
    let places = c.in_ok-places.field-0.places.items in
    let P : List ChannelUse → Type 0 = λ us. places ≡ played_by us c.args.filter.now whole (all_places whole) in
    let is : places ≡ chosen whole choice = subst P c.deref.ensures.value c.in_ok-places.ensures.passed.places ∙ played-is whole choice uses are below in
    let sorted = c.sort.new.places.items in
    let moved = subst (λ (ps : List ℕ). IsPermutation ps sorted) is c.in_ok-sort.ensures.same in
    subst (λ (ps : List ℕ). All (λ (p : ℕ). p < length whole.messages) ps) (sym c.deref-3.ensures.value) (places-inside whole choice uses are below sorted moved)

pub tokens_of-requires-clause-few : goal.tokens_of-requires-clause-few
tokens_of-requires-clause-few c =
    let few : length c.in_ok-places.field-0.places.items ≤ most_played = search rules in
    let same = length_permutation c.in_ok-places.field-0.places.items c.sort.new.places.items c.in_ok-sort.ensures.same in
    let size = ap length c.deref-3.ensures.value in
    omega (arith, few, same, size)

pub invariant_of-result : goal.invariant_of-result
invariant_of-result c =
    let whole = c.args.whole.now in
    let number : ℕ → ℕ = number_by c.deref-2.result.now whole in
    let value = value_from c.deref-2.result.now c.args.values.now whole in
    let places = c.deref-3.result.now in
    let tokens : c.new.result ≡ tokens_behind number value whole [] places = c.new.ensures ∙ c.in_ok-tokens.ensures.tokens in
    let by_time = subst (IsSortedByKey (time_at whole) nat_cmp) (sym c.deref-3.ensures.value) c.in_ok-sort.ensures.order.by_time in
    record {
      timed = timed number value whole places c.new.result by_time tokens;
      numbered = numbered number value whole places c.new.result tokens;
      origins = subst (λ (ps : List ℕ). AreOf (length ps) c.new.result) (c.deref-3.ensures.value ∙ sym c.new-2.ensures) (origins number value whole places c.new.result tokens);
    }

pub returns : goal.returns
returns c =
    let whole = c.args.whole.now in
    let choice : Choice = record { names = c.args.names.now; filter = c.args.filter.now; written = c.args.written.now; values = c.args.values.now } in
    let uses = c.in_ok-uses.uses.items in
    let are = c.in_ok-uses.ensures.uses in
    let below = c.in_ok-places.ensures.below in
    let places = c.in_ok-places.field-0.places.items in
    let P : List ChannelUse → Type 0 = λ us. places ≡ played_by us c.args.filter.now whole (all_places whole) in
    let is : places ≡ chosen whole choice = subst P c.deref.ensures.value c.in_ok-places.ensures.passed.places ∙ played-is whole choice uses are below in
    let sorted = c.sort.new.places.items in
    let few : length places ≤ most_played = search rules in
    let R : List ChannelUse → List ℕ → Type 0 = λ us ps. c.new.result ≡ tokens_behind (number_by us whole) (value_from us choice.values whole) whole [] ps in
    let tokens = subst (λ (ps : List ℕ). R uses ps) c.deref-3.ensures.value (subst (λ (us : List ChannelUse). R us c.deref-3.result.now) c.deref-2.ensures.value (c.new.ensures ∙ c.in_ok-tokens.ensures.tokens)) in
    let shadowed = subst (λ (us : List ChannelUse). c.in_ok-places.field-0.shadowed ≡ shadowed_by us c.args.filter.now whole (all_places whole)) c.deref.ensures.value c.in_ok-places.ensures.passed.shadowed in
    answered whole choice uses places sorted _ are below is c.in_ok-sort.ensures.same c.in_ok-sort.ensures.order.by_time c.in_ok-sort.ensures.order.stable c.new-2.ensures tokens shadowed few

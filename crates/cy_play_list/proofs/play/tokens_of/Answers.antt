use Rattle.std.proofs.Common.{◌≡◌, ◌<◌, ◌∙◌, ◌==◌, ℕ, List, [], length, take, get_or, set, ◌+◌, ◌++◌, ◌∷◌, Some, ap, sym, subst, arith, rules, length-take, length-set}
use Rattle.std.proofs.lemmas.List.{get_or_default}
use Rattle.cy_play_list.specs.declared.play.ChannelUse.{ChannelUse}
use Rattle.std.specs.Prelude.{filter}
use Rattle.cy_value.specs.Values.{form_at, value_by}
use Rattle.cy_msg.specs.declared.token.Token.{Token}
use Rattle.cy_play_list.specs.Play.{token_behind}
use Rattle.cy_play_list.specs.private.Uses.{number_by, value_from}
use Rattle.cy_play_list.proofs.Playing.{number-below, filter-short, counts-more, tokens-more, length-tokens, content-is}
use Rattle.cy_play_list.proofs.play.tokens_of.Goals as goal

pub index_mut-count-requires : goal.index_mut-count-requires
index_mut-count-requires c =
    let place = get_or c.args.places.now c.loop-place.place-index 0 in
    let below = number-below c.args.uses.now c.args.whole.now c.args.names place c.requires.numbers c.requires.all c.use_at-found.ensures.below in
    let n : c.use_at-found.result.number < c.args.names = subst (λ (u : ChannelUse). u.number < c.args.names) (sym c.use_at-found.ensures.found) below in
    let all = c.loop-place.invariant.names in
    omega (arith, n, all)

pub overflow_add-count : goal.overflow_add-count
overflow_add-count c =
    let place = get_or c.args.places.now c.loop-place.place-index 0 in
    let number : ℕ → ℕ = number_by c.args.uses.now c.args.whole.now in
    let i = c.loop-place.place-index in
    let places = c.args.places.now in
    let counts = c.loop-place.counts.items in
    let below = number-below c.args.uses.now c.args.whole.now c.args.names place c.requires.numbers c.requires.all c.use_at-found.ensures.below in
    let n : c.use_at-found.result.number ≡ number place = ap (λ (u : ChannelUse). u.number) c.use_at-found.ensures.found in
    let held : length counts ≡ c.args.names = c.loop-place.invariant.names in
    let inside-counts : c.use_at-found.result.number < length counts = omega (arith, n, below, held) in
    let held_count : c.index_mut-count.result.now ≡ get_or counts c.use_at-found.result.number 0
    = c.index_mut-count.ensures.value ∙ get_or_default counts c.use_at-found.result.number c.index_mut-count.result.now 0 inside-counts in
    let all : get_or counts c.use_at-found.result.number 0 ≡ length (filter (λ p. number p == number place) (take i places)) = ap (λ (k : ℕ). get_or counts k 0) n ∙ c.loop-place.invariant.counts (number place) below in
    let short = filter-short (λ p. number p == number place) (take i places) in
    let long = length-take i places in
    let few = c.requires.few in
    omega (arith, held_count, all, short, long, few)

pub overflow_cast-len : goal.overflow_cast-len
overflow_cast-len c =
    let number : ℕ → ℕ = number_by c.args.uses.now c.args.whole.now in
    let i = c.loop-place.place-index in
    let places = c.args.places.now in
    let value = value_from c.args.uses.now c.args.values.now c.args.whole.now in
    let size : c.len.result ≡ length c.loop-place.tokens.items = search rules in
    let count : length c.loop-place.tokens.items ≡ length (take i places) = ap length c.loop-place.invariant.tokens ∙ length-tokens number value c.args.whole.now [] (take i places) in
    let long = length-take i places in
    let few = c.requires.few in
    omega (arith, size, count, long, few)

pub loop-place-preserved : goal.loop-place-preserved
loop-place-preserved c =
    let place = get_or c.args.places.now c.loop-place.place-index 0 in
    let number : ℕ → ℕ = number_by c.args.uses.now c.args.whole.now in
    let i = c.loop-place.place-index in
    let places = c.args.places.now in
    let counts = c.loop-place.counts.items in
    let below = number-below c.args.uses.now c.args.whole.now c.args.names place c.requires.numbers c.requires.all c.use_at-found.ensures.below in
    let n : c.use_at-found.result.number ≡ number place = ap (λ (u : ChannelUse). u.number) c.use_at-found.ensures.found in
    let held : length counts ≡ c.args.names = c.loop-place.invariant.names in
    let inside-counts : c.use_at-found.result.number < length counts = omega (arith, n, below, held) in
    let held_count : c.index_mut-count.result.now ≡ get_or counts c.use_at-found.result.number 0
    = c.index_mut-count.ensures.value ∙ get_or_default counts c.use_at-found.result.number c.index_mut-count.result.now 0 inside-counts in
    let all : get_or counts c.use_at-found.result.number 0 ≡ length (filter (λ p. number p == number place) (take i places)) = ap (λ (k : ℕ). get_or counts k 0) n ∙ c.loop-place.invariant.counts (number place) below in
    let value = value_from c.args.uses.now c.args.values.now c.args.whole.now in
    let size : c.len.result ≡ length c.loop-place.tokens.items = search rules in
    let count : length c.loop-place.tokens.items ≡ length (take i places) = ap length c.loop-place.invariant.tokens ∙ length-tokens number value c.args.whole.now [] (take i places) in
    let inside : i < length places = search rules in
    let there = c.requires.there i 0 inside in
    let whole = c.args.whole.now in
    let step = counts-more number places i c.args.names counts inside c.loop-place.invariant.names below c.loop-place.invariant.counts in
    let P : ℕ → ℕ → Type 0 = λ k v. (channel : ℕ) → channel < c.args.names → get_or (set counts k (v + 1)) channel 0 ≡ length (filter (λ p. number p == channel) (take (i + 1) places)) in
    let content = content-is whole place c.content.result.now there c.content.ensures in
    let seq = held_count ∙ all in
    let form = c.form_at.ensures ∙ ap (λ (u : ChannelUse). form_at c.args.values.now u.form) c.use_at-found.ensures.found in
    let read = c.value_by.ensures ∙ (λ j. value_by (form j) (content j)) in
    let origin = size ∙ count in
    let time = c.time_at.ensures in
    record {
      names = length-set counts c.use_at-found.result.number (c.index_mut-count.result.now + 1) ∙ c.loop-place.invariant.names;
      counts = subst (λ (v : ℕ). P c.use_at-found.result.number v) (sym held_count) (subst (λ (k : ℕ). P k (get_or counts k 0)) (sym n) step);
      tokens = c.in_ok-push.ensures.items
          ∙ (λ j. c.loop-place.tokens.items ++ (let t : Token = record { channel = n j; seq = seq j + 1; time = time j; whole = read j; origin = Some (origin j) } in t) ∷ [])
          ∙ ap (λ (ts : List Token). ts ++ token_behind number value whole (take i places) place ∷ []) c.loop-place.invariant.tokens
          ∙ sym (tokens-more number value whole places i inside);
    }

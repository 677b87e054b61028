-- How many messages stand on each channel, one message after another.
use Rattle.std.proofs.Common.{ℕ, ◌+◌, ◌≡◌, ◌≤◌, ◌<◌, ◌==◌, ◌^◌, not, cond, Bool, true, false, List, [], ◌∷◌, length, take, get_or, set, All, refl, sym, ap, ◌∙◌, inl, inr, arith, length-set, length-take}
use Rattle.std.proofs.lemmas.List.{get_or-set_same, get_or-set_other, get_or_past, get_or_default, take_all}
use Rattle.std.proofs.lemmas.List.Elements.{All-head, All-tail}
use Rattle.std.proofs.lemmas.List.Filters.{length-filter_more, length-filter_both}
use Rattle.std.proofs.lemmas.Bool.{eqb-true, eqb-false, ne_eqb, cases_lt}
use Rattle.cy_msg.specs.Tokens.{on_channel}
use Rattle.cy_msg.specs.declared.token.Token.{Token}
use Rattle.cy_setup.specs.Listing.{AreCounts}

-- the counts of so many messages
pub record CountSoFar (channels i : ℕ) (tokens : List Token) (counts : List ℕ) : Type 0 where
  pub many : length counts ≡ channels
  pub each : (channel : ℕ) → channel < channels → get_or counts channel 0 ≡ length (on_channel channel (take i tokens))

one_more : (tokens : List Token) (i channel here : ℕ) (counts : List ℕ) (b : Bool) → (here == channel) ≡ b → here < length counts → get_or counts channel 0 ≡ length (on_channel channel (take i tokens))
    → get_or (set counts here (get_or counts here 0 + 1)) channel 0 ≡ length (on_channel channel (take i tokens)) + cond b 1 0
one_more tokens i channel here counts true e below so_far =
    let same : here ≡ channel = eqb-true here channel e in
    ap (λ (k : ℕ). get_or (set counts here (get_or counts here 0 + 1)) k 0) (sym same) ∙ get_or-set_same counts here (get_or counts here 0 + 1) 0 below
    ∙ ap (λ (k : ℕ). get_or counts k 0 + 1) same ∙ ap (λ (k : ℕ). k + 1) so_far
one_more tokens i channel here counts false e below so_far =
    get_or-set_other counts here channel (get_or counts here 0 + 1) 0 (λ same. eqb-false here channel e (sym same)) ∙ so_far ∙ omega arith

pub count_more : (channels i : ℕ) (tokens : List Token) (t : Token) (counts : List ℕ) (here value : ℕ) → CountSoFar channels i tokens counts → i < length tokens → t ≡ get_or tokens i t → here ≡ t.channel → t.channel < channels → value ≡ get_or counts here 0
    → CountSoFar channels (i + 1) tokens (set counts here (value + 1))
count_more channels i tokens t counts here value so_far inside is same below held = record {
  many = length-set counts here (value + 1) ∙ so_far.many;
  each = λ channel few.
      let many = so_far.many in
      let in_counts : here < length counts = omega (arith, many, same, below) in
      let at : (get_or tokens i t).channel ≡ here = sym (ap (λ (u : Token). u.channel) is) ∙ sym same in
      ap (λ (v : ℕ). get_or (set counts here (v + 1)) channel 0) held
      ∙ one_more tokens i channel here counts (here == channel) refl in_counts (so_far.each channel few)
      ∙ ap (λ (c : ℕ). length (on_channel channel (take i tokens)) + cond (c == channel) 1 0) (sym at)
      ∙ sym (length-filter_more (λ u. u.channel == channel) tokens i t inside);
}

none_past : (channels channel : ℕ) (tokens : List Token) → All (λ t. t.channel < channels) tokens → channels ≤ channel → length (on_channel channel tokens) ≡ 0
none_past channels channel [] all past = refl
none_past channels channel (t ∷ rest) all past =
    let below = All-head (λ (u : Token). u.channel < channels) t rest all in
    rw (ne_eqb t.channel channel (λ e. absurd (omega (arith, e, below, past)))) (none_past channels channel rest (All-tail (λ (u : Token). u.channel < channels) t rest all) past)

pub all_counted : (channels i : ℕ) (tokens : List Token) (counts : List ℕ) → All (λ t. t.channel < channels) tokens → CountSoFar channels i tokens counts → length tokens ≤ i → AreCounts channels tokens counts
all_counted channels i tokens counts all so_far long = record {
  many = so_far.many;
  each = λ channel.
      let many = so_far.many in
      elim (cases_lt channel channels) [
        | inl below ↦ sym (so_far.each channel below ∙ ap (λ (ts : List Token). length (on_channel channel ts)) (take_all i tokens long))
        | inr past ↦ none_past channels channel tokens all past ∙ sym (get_or_past counts channel 0 (omega (arith, many, past)))
      ];
}

filter_within : (channel : ℕ) (tokens : List Token) → length (on_channel channel tokens) ≤ length tokens
filter_within channel tokens = let both = length-filter_both (λ (t : Token). t.channel == channel) (λ t. not (t.channel == channel)) (λ t. refl) tokens in omega (arith, both)

-- one more message can be counted
pub count_fits : (channels i : ℕ) (tokens : List Token) (counts : List ℕ) (here value : ℕ) → CountSoFar channels i tokens counts → i < length tokens → length tokens < 2 ^ 32 → here < channels → value ≡ get_or counts here value → value + 1 < 2 ^ 32
count_fits channels i tokens counts here value so_far inside few below held =
    let many = so_far.many in
    let is = held ∙ get_or_default counts here value 0 (omega (arith, many, below)) ∙ so_far.each here below in
    let short = filter_within here (take i tokens) in
    let long = length-take i tokens in
    omega (arith, is, short, long, inside, few)

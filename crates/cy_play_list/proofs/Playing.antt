-- Messages that are played: their places, and their numbers.
use Rattle.std.proofs.Common.{◌≡◌, ◌≤◌, ◌<◌, ℕ, ℤ, zero, suc, ◌+◌, List, [], ◌∷◌, ◌++◌, length, take, get_or, refl, ap, sym, ◌∙◌, subst, arith, Some, None, Option, Bool, true, false, not, cond, length-append, length-take, All, slice_get, IfSome, set, inl, inr, Ok, append_assoc, append-nil, ltb-false}
use Rattle.std.specs.Prelude.{filter, ◌==◌, unwrap_or, ◌&&◌, ◌⊎◌}
use Rattle.std.specs.List.{position, Contains}
use Rattle.std.specs.List.Sorted.{IsPermutation, IsSortedByKey, IsStableByKey}
use Rattle.std.specs.Ordering.{nat_cmp}
use Rattle.std.specs.Str.{bytes_eq}
use Rattle.std.proofs.lemmas.Option.{slice_get-get_or, get_or_from_slice_get, none-some, same_Some, slice_get_within}
use Rattle.std.proofs.lemmas.List.Elements.{All-nil, All-head, All-tail, All-filter, All-weaker, All-push, All-get_or, All-from_get_or, filter-append}
use Rattle.std.proofs.lemmas.List.Sorted.{All-permutation, IsNonDecreasingBy-from_sort}
use Rattle.std.proofs.lemmas.List.{take_more, get_or-set_same, get_or-set_other, get_or_append_left, get_or_push}
use Rattle.std.proofs.lemmas.Bool.Decides.{eqb_tells}
use Rattle.std.proofs.lemmas.List.Filters.{length-filter_more, length-filter_both}
use Rattle.std.proofs.lemmas.Bool.{eqb-true, eqb-false}
use Rattle.std.proofs.lemmas.List.Quantifiers.{position-Some}
use Rattle.std.proofs.lemmas.List.Sums.{prefix_len_passes}
use Rattle.std.proofs.lemmas.Slice.Eq.{bytes_eq-Decides}
use Rattle.cy_value.specs.Values.{form_at, value_by}
use Rattle.cy_value.specs.declared.form.ValueForm.{ValueForm}
use Rattle.cy_value.proofs.Places.{form-at_place}
use Rattle.cy_msg.specs.Once.{IsOnce}
use Rattle.cy_msg.specs.Tokens.{on_channel, AreOf, IsNumbered, IsTimed}
use Rattle.cy_msg.specs.declared.token.Token.{Token}
use Rattle.cy_section.specs.declared.types.Channel.{Channel}
use Rattle.cy_reader.specs.declared.known.Known.{Known}
use Rattle.cy_msg.specs.declared.play_list.PlayList.{PlayList}
use Rattle.cy_reader.specs.Record.{Contents, Message, named_only}
use Rattle.cy_reader.proofs.Sums.{none_found}
use Rattle.cy_msg.specs.declared.filter.Filter.{Filter}
use Rattle.cy_play_list.specs.declared.play.ChannelUse.{ChannelUse}
use Rattle.cy_play_list.specs.private.Uses.{AreUses, no_use, use_of, number_by, use_at, value_from, passes_by, is_played_by, is_shadowed_by, played_by, shadowed_by}
use Rattle.cy_msg.specs.Filter.{lets_time}
use Rattle.cy_play_list.specs.Play.{Choice, PlayAnswer, IsOrder, most_played, all_places, chosen, is_played, is_shadowed, number_at, places_below, time_at, token_behind, tokens_behind, number_in, name_of, value_at, AreNamed}
use Rattle.cy_reader.specs.Named.{message_at}

-- tests that agree on each element
pub filter_alike : {X : Type 0} (p q : X → Bool) (xs : List X) → All (λ x. p x ≡ q x) xs → filter p xs ≡ filter q xs
filter_alike p q [] same = refl
filter_alike p q (x ∷ xs) same =
    rw (All-head (λ x. p x ≡ q x) x xs same, filter_alike p q xs (All-tail (λ x. p x ≡ q x) x xs same)) refl

-- the places below a number
pub places-below : (n : ℕ) → All (λ place. place < n) (places_below n)
places-below zero = All-nil (λ place. place < 0)
places-below (suc n) =
    All-push (λ place. place < suc n) (places_below n) n
    (All-weaker (λ place. place < n) (λ place. place < suc n) (λ place less. omega arith) (places_below n) (places-below n)) (omega arith)

one : (b : Bool) (t : Token) (place : ℕ) (ts : List Token) (ps : List ℕ) → length ts ≡ length ps → length (cond b (t ∷ ts) ts) ≡ length (cond b (place ∷ ps) ps)
one true t place ts ps e = ap suc e
one false t place ts ps e = e

-- the messages on a channel, among places and among their tokens
module _ (number : ℕ → ℕ) (value : ℕ → Option ℤ) (whole : Contents) where
  pub length-tokens : (before places : List ℕ) → length (tokens_behind number value whole before places) ≡ length places
  length-tokens before [] = refl
  length-tokens before (place ∷ rest) = ap suc (length-tokens (before ++ place ∷ []) rest)

  pub tokens-push : (before places : List ℕ) (place : ℕ) → tokens_behind number value whole before (places ++ place ∷ []) ≡ tokens_behind number value whole before places ++ token_behind number value whole (before ++ places) place ∷ []
  tokens-push before [] place = ap (λ (b : List ℕ). token_behind number value whole b place ∷ []) (sym (append-nil before))
  tokens-push before (first ∷ rest) place =
      ap (λ (ts : List Token). token_behind number value whole before first ∷ ts)
      (tokens-push (before ++ first ∷ []) rest place
      ∙ ap (λ (b : List ℕ). tokens_behind number value whole (before ++ first ∷ []) rest ++ token_behind number value whole b place ∷ []) (append_assoc before (first ∷ []) rest))

  token-at : (before places : List ℕ) (n d : ℕ) (t : Token) → slice_get (tokens_behind number value whole before places) n ≡ Some t → t ≡ token_behind number value whole (before ++ take n places) (get_or places n d)
  token-at before [] n d t e = absurd (none-some t e)
  token-at before (place ∷ rest) zero d t e =
      sym (same_Some (token_behind number value whole before place) t e) ∙ ap (λ (b : List ℕ). token_behind number value whole b place) (sym (append-nil before))
  token-at before (place ∷ rest) (suc n) d t e =
      token-at (before ++ place ∷ []) rest n d t e ∙ ap (λ (b : List ℕ). token_behind number value whole b (get_or rest n d)) (append_assoc before (place ∷ []) (take n rest))

  take-tokens : (n : ℕ) (before places : List ℕ) → take n (tokens_behind number value whole before places) ≡ tokens_behind number value whole before (take n places)
  take-tokens zero before places = refl
  take-tokens (suc n) before [] = refl
  take-tokens (suc n) before (place ∷ rest) = ap (λ (ts : List Token). token_behind number value whole before place ∷ ts) (take-tokens n (before ++ place ∷ []) rest)

  on-tokens : (channel : ℕ) (before places : List ℕ) → length (on_channel channel (tokens_behind number value whole before places)) ≡ length (filter (λ place. number place == channel) places)
  on-tokens channel before [] = refl
  on-tokens channel before (place ∷ rest) =
      one (number place == channel) (token_behind number value whole before place) place (on_channel channel (tokens_behind number value whole (before ++ place ∷ []) rest)) (filter (λ p. number p == channel) rest)
      (on-tokens channel (before ++ place ∷ []) rest)

  pub numbered : (places : List ℕ) (tokens : List Token) → tokens ≡ tokens_behind number value whole [] places → IsNumbered tokens
  numbered places tokens is n t e =
      let at = token-at [] places n 0 t (subst (λ (ts : List Token). slice_get ts n ≡ Some t) is e) in
      let channel : number (get_or places n 0) ≡ t.channel = sym (ap (λ (u : Token). u.channel) at) in
      ap (λ (u : Token). u.seq) at
      ∙ ap (λ (c : ℕ). length (filter (λ place. number place == c) (take n places)) + 1) channel
      ∙ ap (λ (k : ℕ). k + 1)
      (sym (on-tokens t.channel [] (take n places))
      ∙ ap (λ (ts : List Token). length (on_channel t.channel ts)) (sym (take-tokens n [] places) ∙ ap (take n) (sym is)))

  token_below : (places : List ℕ) (tokens : List Token) (n : ℕ) (t : Token) → tokens ≡ tokens_behind number value whole [] places → slice_get tokens n ≡ Some t → n < length places
  token_below places tokens n t is e =
      let long : length tokens ≡ length places = ap length is ∙ length-tokens [] places in
      omega (arith, slice_get_within tokens n t e)

  pub origins : (places : List ℕ) (tokens : List Token) → tokens ≡ tokens_behind number value whole [] places → AreOf (length places) tokens
  origins places tokens is n o t e from =
      let at = token-at [] places n 0 t (subst (λ (ts : List Token). slice_get ts n ≡ Some t) is e) in
      let count : length (take n places) ≡ o = same_Some (length (take n places)) o (sym (ap (λ (u : Token). u.origin) at) ∙ from) in
      let long = length-take n places in
      let less = token_below places tokens n t is e in
      omega (arith, count, long, less)

  pub timed : (places : List ℕ) (tokens : List Token) → IsSortedByKey (time_at whole) nat_cmp places → tokens ≡ tokens_behind number value whole [] places → IsTimed tokens
  timed places tokens sorted is n s t first second =
      let rises = IsNonDecreasingBy-from_sort (time_at whole) places sorted in
      let a = ap (λ (u : Token). u.time) (token-at [] places n 0 s (subst (λ (ts : List Token). slice_get ts n ≡ Some s) is first)) in
      let b = ap (λ (u : Token). u.time) (token-at [] places (n + 1) 0 t (subst (λ (ts : List Token). slice_get ts (n + 1) ≡ Some t) is second)) in
      omega (arith, a, b, rises n (n + 1) 0 (omega arith) (token_below places tokens (n + 1) t is second))

-- numbers and values that agree at each place
pub tokens_alike : (number other : ℕ → ℕ) (value seen : ℕ → Option ℤ) (whole : Contents) (before places : List ℕ) → All (λ place. number place ≡ other place) before → All (λ place. number place ≡ other place) places
    → All (λ place. value place ≡ seen place) places → tokens_behind number value whole before places ≡ tokens_behind other seen whole before places
tokens_alike number other value seen whole before [] same_before same read = refl
tokens_alike number other value seen whole before (place ∷ rest) same_before same read =
    let P : ℕ → Type 0 = λ p. number p ≡ other p in
    let Q : ℕ → Type 0 = λ p. value p ≡ seen p in
    let here = All-head P place rest same in
    let found = All-head Q place rest read in
    let counted : filter (λ p. number p == number place) before ≡ filter (λ p. other p == other place) before
    = filter_alike (λ p. number p == number place) (λ p. other p == other place) before
    (All-weaker P (λ p. (number p == number place) ≡ (other p == other place)) (λ p e. rw (e, here) refl) before same_before) in
    let first : token_behind number value whole before place ≡ token_behind other seen whole before place
    = (λ i. record { channel = here i; seq = length (counted i) + 1; time = time_at whole place; whole = found i; origin = Some (length before) }) in
    (λ i. first i ∷ tokens_alike number other value seen whole (before ++ place ∷ []) rest (All-push P before place same_before here) (All-tail P place rest same) (All-tail Q place rest read) i)

none_there : (names : List (List ℕ)) (name : List ℕ) (n : ℕ) → position (λ kept. bytes_eq kept name) names ≡ None → slice_get names n ≡ Some name → ⊥
none_there names name n e there =
    let many = ltb-false _ _ (none_found _ _ e) in
    let inside = slice_get_within names n name there in
    let fails : not (bytes_eq (get_or names n name) name) ≡ true = prefix_len_passes (λ kept. not (bytes_eq kept name)) names n name (omega arith) in
    let is : get_or names n name ≡ name = get_or_from_slice_get names n name name there in
    let passes : bytes_eq (get_or names n name) name ≡ true = ap (λ (x : List ℕ). bytes_eq x name) is ∙ (bytes_eq-Decides name name).1 refl in
    absurd cc

-- a name's number, among names of which none stands twice
pub number_in-is : (names : List (List ℕ)) (name : List ℕ) (n : ℕ) → IsOnce names → slice_get names n ≡ Some name → number_in names name ≡ n
number_in-is names name n once there = by_place (position (λ kept. bytes_eq kept name) names) refl
  where
    by_place : (found : Option ℕ) → position (λ kept. bytes_eq kept name) names ≡ found → unwrap_or found 0 ≡ n
    by_place (Some k) e =
        let at = position-Some (λ kept. bytes_eq kept name) names k [] e in
        let same : get_or names k [] ≡ name = (bytes_eq-Decides (get_or names k []) name).0 at.1 in
        once k n name (slice_get-get_or names k [] at.0 ∙ ap (λ (x : List ℕ). Some x) same) there
    by_place None e = absurd (none_there names name n e there)

pub number_given : (names : List (List ℕ)) (name : List ℕ) (n : ℕ) → IsOnce names → slice_get names n ≡ Some name → n ≡ number_in names name
number_given names name n once there = sym (number_in-is names name n once there)

-- a record's channel is named
pub named-at : (names : List (List ℕ)) (whole : Contents) (n : ℕ) (c : Channel) → AreNamed whole names → n < length whole.channels
    → IfSome (slice_get whole.channels n) (λ (known : Known). c ≡ known.channel) → Contains names c.name × (c.name ≡ name_of whole n)
named-at names whole n c named less is =
    let known = get_or whole.channels n (named_only []) in
    let there : slice_get whole.channels n ≡ Some known = slice_get-get_or whole.channels n (named_only []) less in
    let same : c ≡ known.channel = rw there at is in
    let P : Known → Type 0 = λ k. Contains names k.channel.name in (
      subst (λ (channel : Channel). Contains names channel.name) (sym same) (All-get_or P whole.channels n (named_only []) less named),
      ap (λ (channel : Channel). channel.name) same,
    )

-- what becomes of one more place
pub taken-played : (uses : List ChannelUse) (f : Filter) (whole : Contents) (place : ℕ) (passes written : Bool) → passes_by uses f whole place ≡ passes → (use_at uses whole place).is_written ≡ written
    → played_by uses f whole (place ∷ []) ≡ cond (passes && not written) (place ∷ []) []
taken-played uses f whole place passes written is told = rw (is, told) refl

pub taken-shadowed : (uses : List ChannelUse) (f : Filter) (whole : Contents) (place : ℕ) (passes written : Bool) → passes_by uses f whole place ≡ passes → (use_at uses whole place).is_written ≡ written
    → shadowed_by uses f whole (place ∷ []) ≡ cond (passes && written) 1 0
taken-shadowed uses f whole place true true is told = rw (is, told) refl
taken-shadowed uses f whole place true false is told = rw (is, told) refl
taken-shadowed uses f whole place false written is told = rw is refl

one_more : (n : ℕ) → places_below (n + 1) ≡ places_below n ++ n ∷ []
one_more n = let e : n + 1 ≡ suc n = omega arith in ap places_below e

pub more-played : (uses : List ChannelUse) (f : Filter) (whole : Contents) (n : ℕ) (places new : List ℕ) → places ≡ played_by uses f whole (places_below n) → new ≡ places ++ played_by uses f whole (n ∷ [])
    → new ≡ played_by uses f whole (places_below (n + 1))
more-played uses f whole n places new so_far is =
    is ∙ ap (λ (ps : List ℕ). ps ++ played_by uses f whole (n ∷ [])) so_far
    ∙ sym (filter-append (is_played_by uses f whole) (places_below n) (n ∷ []))
    ∙ ap (filter (is_played_by uses f whole)) (sym (one_more n))

pub more-shadowed : (uses : List ChannelUse) (f : Filter) (whole : Contents) (n old new : ℕ) → old ≡ shadowed_by uses f whole (places_below n) → new ≡ old + shadowed_by uses f whole (n ∷ [])
    → new ≡ shadowed_by uses f whole (places_below (n + 1))
more-shadowed uses f whole n old new so_far is =
    is ∙ ap (λ (k : ℕ). k + shadowed_by uses f whole (n ∷ [])) so_far
    ∙ sym (length-append (filter (is_shadowed_by uses f whole) (places_below n)) (filter (is_shadowed_by uses f whole) (n ∷ [])))
    ∙ ap length (sym (filter-append (is_shadowed_by uses f whole) (places_below n) (n ∷ [])) ∙ ap (filter (is_shadowed_by uses f whole)) (sym (one_more n)))

pub one_at_most : (uses : List ChannelUse) (f : Filter) (whole : Contents) (n : ℕ) → shadowed_by uses f whole (n ∷ []) ≤ 1
one_at_most uses f whole n = by_test (is_shadowed_by uses f whole n)
  where
    by_test : (b : Bool) → length (cond b (n ∷ []) []) ≤ 1
    by_test true = omega arith
    by_test false = omega arith

-- one more token
counted : (number : ℕ → ℕ) (places : List ℕ) (i channel : ℕ) (counts : List ℕ) (b : Bool) → (number (get_or places i 0) == channel) ≡ b → i < length places → number (get_or places i 0) < length counts
    → get_or counts channel 0 ≡ length (filter (λ p. number p == channel) (take i places))
    → get_or (set counts (number (get_or places i 0)) (get_or counts (number (get_or places i 0)) 0 + 1)) channel 0 ≡ length (filter (λ p. number p == channel) (take i places)) + cond b 1 0
counted number places i channel counts true e inside below so_far =
    let n = number (get_or places i 0) in
    let same : n ≡ channel = eqb-true n channel e in
    ap (λ (k : ℕ). get_or (set counts n (get_or counts n 0 + 1)) k 0) (sym same) ∙ get_or-set_same counts n (get_or counts n 0 + 1) 0 below
    ∙ ap (λ (k : ℕ). get_or counts k 0 + 1) same ∙ ap (λ (k : ℕ). k + 1) so_far
counted number places i channel counts false e inside below so_far =
    let n = number (get_or places i 0) in
    get_or-set_other counts n channel (get_or counts n 0 + 1) 0 (λ same. eqb-false n channel e (sym same)) ∙ so_far ∙ omega arith

pub counts-more : (number : ℕ → ℕ) (places : List ℕ) (i names : ℕ) (counts : List ℕ) → i < length places → length counts ≡ names → number (get_or places i 0) < names
    → ((channel : ℕ) → channel < names → get_or counts channel 0 ≡ length (filter (λ p. number p == channel) (take i places)))
    → (channel : ℕ) → channel < names → get_or (set counts (number (get_or places i 0)) (get_or counts (number (get_or places i 0)) 0 + 1)) channel 0 ≡ length (filter (λ p. number p == channel) (take (i + 1) places))
counts-more number places i names counts inside all below so_far channel few =
    counted number places i channel counts (number (get_or places i 0) == channel) refl inside (omega arith) (so_far channel few)
    ∙ sym (length-filter_more (λ p. number p == channel) places i 0 inside)

pub tokens-more : (number : ℕ → ℕ) (value : ℕ → Option ℤ) (whole : Contents) (places : List ℕ) (i : ℕ) → i < length places
    → tokens_behind number value whole [] (take (i + 1) places) ≡ tokens_behind number value whole [] (take i places) ++ token_behind number value whole (take i places) (get_or places i 0) ∷ []
tokens-more number value whole places i inside =
    ap (tokens_behind number value whole []) (take_more places i 0 inside) ∙ tokens-push number value whole [] (take i places) (get_or places i 0)

pub below-more : (whole : Contents) (n : ℕ) → ((k : ℕ) → k < n → (message_at whole k).channel < length whole.channels) → (message_at whole n).channel < length whole.channels
    → (k : ℕ) → k < n + 1 → (message_at whole k).channel < length whole.channels
below-more whole n so_far here k less = elim (eqb_tells k n) [
  | inl same ↦ subst (λ (i : ℕ). (message_at whole i).channel < length whole.channels) (sym same.1) here
  | inr other ↦ so_far k (let differs = other.1 in omega (arith, less, ne-lt k n differs))
]
  where
    ne-lt : (a b : ℕ) → (a ≡ b → ⊥) → (a < b) ⊎ (b < a)
    ne-lt a b differs = grind arith

-- one more use
pub uses-more : (whole : Contents) (choice : Choice) (uses : List ChannelUse) (n : ℕ) (u : ChannelUse) → length uses ≡ n → u ≡ use_of choice (name_of whole n)
    → ((k : ℕ) → k < n → get_or uses k no_use ≡ use_of choice (name_of whole k)) → (k : ℕ) → k < n + 1 → get_or (uses ++ u ∷ []) k no_use ≡ use_of choice (name_of whole k)
uses-more whole choice uses n u all is so_far k less = elim (lt-or-eq k n less) [
  | inl before ↦ get_or_append_left uses (u ∷ []) no_use k (omega (arith, before, all)) ∙ so_far k before
  | inr same ↦ get_or_push uses u no_use k (all ∙ sym same) ∙ is ∙ ap (λ (i : ℕ). use_of choice (name_of whole i)) (sym same)
]
  where
    lt-or-eq : (a b : ℕ) → a < b + 1 → (a < b) ⊎ (a ≡ b)
    lt-or-eq a b l = grind arith

pub number-below : (uses : List ChannelUse) (whole : Contents) (names place : ℕ) → All (λ u. u.number < names) uses → length uses ≡ length whole.channels → (message_at whole place).channel < length whole.channels
    → (use_at uses whole place).number < names
number-below uses whole names place numbers all below = numbers (message_at whole place).channel no_use (omega (arith, all, below))

pub filter-short : {X : Type 0} (p : X → Bool) (xs : List X) → length (filter p xs) ≤ length xs
filter-short p xs = omega (arith, length-filter_both p (λ x. not (p x)) (λ x. refl) xs)

-- what is found by the uses is what the definitions say
uses-agree : (whole : Contents) (choice : Choice) (uses : List ChannelUse) → AreUses whole choice uses → (place : ℕ) → (message_at whole place).channel < length whole.channels
    → use_at uses whole place ≡ use_of choice (name_of whole (message_at whole place).channel)
uses-agree whole choice uses are place below = are.each (message_at whole place).channel (omega (arith, are.all, below))

module _ (whole : Contents) (choice : Choice) (uses : List ChannelUse) (are : AreUses whole choice uses) (below : (n : ℕ) → n < length whole.messages → (message_at whole n).channel < length whole.channels) where
  pub played-is : played_by uses choice.filter whole (all_places whole) ≡ chosen whole choice
  played-is =
      filter_alike (is_played_by uses choice.filter whole) (is_played whole choice) (all_places whole)
      (All-weaker (λ place. place < length whole.messages) (λ place. is_played_by uses choice.filter whole place ≡ is_played whole choice place)
      (λ place less. ap (λ (u : ChannelUse). (u.is_let && lets_time choice.filter (time_at whole place)) && not u.is_written) (uses-agree whole choice uses are place (below place less)))
      (all_places whole) (places-below (length whole.messages)))

  pub shadowed-is : shadowed_by uses choice.filter whole (all_places whole) ≡ length (filter (is_shadowed whole choice) (all_places whole))
  shadowed-is =
      ap length (filter_alike (is_shadowed_by uses choice.filter whole) (is_shadowed whole choice) (all_places whole)
      (All-weaker (λ place. place < length whole.messages) (λ place. is_shadowed_by uses choice.filter whole place ≡ is_shadowed whole choice place)
      (λ place less. ap (λ (u : ChannelUse). (u.is_let && lets_time choice.filter (time_at whole place)) && u.is_written) (uses-agree whole choice uses are place (below place less)))
      (all_places whole) (places-below (length whole.messages))))

  pub places-inside : (places : List ℕ) → IsPermutation (chosen whole choice) places → All (λ place. place < length whole.messages) places
  places-inside places moved =
      All-permutation (λ place. place < length whole.messages) (chosen whole choice) places moved (All-filter (is_played whole choice) (λ place. place < length whole.messages) (all_places whole) (places-below (length whole.messages)))

  pub value-is : (place : ℕ) → place < length whole.messages → value_from uses choice.values whole place ≡ value_at whole choice place
  value-is place less =
      let m = message_at whole place in
      ap (λ (u : ChannelUse). value_by (form_at choice.values u.form) m.content) (uses-agree whole choice uses are place (below place less))
      ∙ ap (λ (form : Option ValueForm). value_by form m.content) (form-at_place choice.values (name_of whole m.channel))

  pub tokens-are : (places : List ℕ) → All (λ place. place < length whole.messages) places
      → tokens_behind (number_by uses whole) (value_from uses choice.values whole) whole [] places ≡ tokens_behind (number_at whole choice) (value_at whole choice) whole [] places
  tokens-are places inside =
      tokens_alike (number_by uses whole) (number_at whole choice) (value_from uses choice.values whole) (value_at whole choice) whole [] places (All-nil (λ place. number_by uses whole place ≡ number_at whole choice place))
      (All-weaker (λ place. place < length whole.messages) (λ place. number_by uses whole place ≡ number_at whole choice place)
      (λ place less. ap (λ (u : ChannelUse). u.number) (uses-agree whole choice uses are place (below place less))) places inside)
      (All-weaker (λ place. place < length whole.messages) (λ place. value_from uses choice.values whole place ≡ value_at whole choice place) value-is places inside)

-- the content of a message
pub content-is : (whole : Contents) (place : ℕ) (bytes : List ℕ) → place < length whole.messages → IfSome (slice_get whole.messages place) (λ (m : Message). bytes ≡ m.content) → bytes ≡ (message_at whole place).content
content-is whole place bytes less is =
    rw (slice_get-get_or whole.messages place (record { channel = 0; time = 0; content = [] }) less) at is

-- every use has the number of a name
contained-below : (names : List (List ℕ)) (name : List ℕ) → IsOnce names → Contains names name → number_in names name < length names
contained-below names name once there =
    let at : slice_get names there.0 ≡ Some name = slice_get-get_or names there.0 name there.1 ∙ ap (λ (x : List ℕ). Some x) there.2 in
    let is = number_in-is names name there.0 once at in
    let less = there.1 in
    omega (arith, is, less)

pub numbers-below : (whole : Contents) (choice : Choice) (uses : List ChannelUse) → AreUses whole choice uses → AreNamed whole choice.names → IsOnce choice.names → All (λ u. u.number < length choice.names) uses
numbers-below whole choice uses are named once =
    All-from_get_or (λ u. u.number < length choice.names) uses no_use (λ n less.
    let P : Known → Type 0 = λ k. Contains choice.names k.channel.name in
    let all = are.all in
    let inside : n < length whole.channels = omega (arith, all, less) in
    subst (λ (u : ChannelUse). u.number < length choice.names) (sym (are.each n less)) (contained-below choice.names (name_of whole n) once (All-get_or P whole.channels n (named_only []) inside named)))

-- the play list is what is asked
pub answered : (whole : Contents) (choice : Choice) (uses : List ChannelUse) (places sorted : List ℕ) (list : PlayList) → AreUses whole choice uses
    → ((n : ℕ) → n < length whole.messages → (message_at whole n).channel < length whole.channels) → places ≡ chosen whole choice → IsPermutation places sorted
    → IsSortedByKey (time_at whole) nat_cmp sorted → IsStableByKey (time_at whole) nat_cmp places sorted → list.places ≡ sorted → list.tokens ≡ tokens_behind (number_by uses whole) (value_from uses choice.values whole) whole [] sorted
    → list.shadowed ≡ shadowed_by uses choice.filter whole (all_places whole) → length places ≤ most_played → PlayAnswer whole choice (Ok list)
answered whole choice uses places sorted list are below is moved by_time stable placed tokens shadowed few =
    let same = subst (λ (ps : List ℕ). IsPermutation ps sorted) is moved in
    let kept = subst (λ (ps : List ℕ). IsStableByKey (time_at whole) nat_cmp ps sorted) is stable in
    let order : IsOrder whole choice sorted = record { same = same; by_time = by_time; stable = kept } in
    let inside = places-inside whole choice uses are below sorted same in
    let read = tokens ∙ tokens-are whole choice uses are below sorted inside in
    record {
      list = record {
        order = subst (IsOrder whole choice) (sym placed) order;
        tokens = read ∙ ap (tokens_behind (number_at whole choice) (value_at whole choice) whole []) (sym placed);
        shadowed = shadowed ∙ shadowed-is whole choice uses are below;
      };
      few = subst (λ (ps : List ℕ). length ps ≤ most_played) is few;
      refused = tt;
    }

pub ruleset takes = (taken-played, taken-shadowed)

-- The next message of a channel on a tape.
use Rattle.std.proofs.Common.{ℕ, zero, suc, ◌+◌, ◌-◌, ◌≡◌, ◌≢◌, ◌⊎◌, inl, inr, true, false, refl, sym, ◌∙◌, ap, arith, List, [], ◌∷◌, ◌++◌, length, take, drop, Some, None, slice_get, ◌==◌, cond, append-nil}
use Rattle.std.specs.List.{position, position_from}
use Rattle.std.proofs.Math.Seq.{take-add}
use Rattle.std.proofs.lemmas.Iterator.Adapters.{position_from-zero}
use Rattle.std.proofs.lemmas.List.{take-append-drop, take_rest}
use Rattle.std.proofs.lemmas.List.Elements.{filter-append}
use Rattle.std.proofs.lemmas.Bool.Decides.{eqb_tells}
use Rattle.cy_msg.specs.declared.token.Token.{Token}
use Rattle.cy_msg.specs.Tokens.{on_channel}
use Rattle.cy_verify.specs.private.Following.{IsNextOn}

-- The first message of a channel, from a place on that is counted from `i`.
record IsFirst (channel i n : ℕ) (xs : List Token) : Type 0 where
  token : Token
  place : ℕ
  counted : n ≡ i + place
  at : slice_get xs place ≡ Some token
  its : token.channel ≡ channel
  alone : on_channel channel (take (place + 1) xs) ≡ token ∷ []

first_is : (channel i n : ℕ) (xs : List Token) → position_from (λ (t : Token). t.channel == channel) i xs ≡ Some n → IsFirst channel i n xs
first_is channel i n [] e = cc
first_is channel i n (x ∷ xs) e = by (λ rest. first_is channel (i + 1) n xs rest) (eqb_tells x.channel channel)
  where
    first_taken : (k : ℕ) → on_channel channel (take (suc k + 1) (x ∷ xs)) ≡ on_channel channel (x ∷ take (k + 1) xs)
    first_taken k = let same : suc k + 1 ≡ suc (k + 1) = omega arith in ap (λ j. on_channel channel (take j (x ∷ xs))) same

    some_is : {a b : ℕ} → Some a ≡ Some b → b ≡ a
    some_is e = cc

    by : (position_from (λ (t : Token). t.channel == channel) (i + 1) xs ≡ Some n → IsFirst channel (i + 1) n xs)
        → ((x.channel == channel ≡ true) × (x.channel ≡ channel)) ⊎ ((x.channel == channel ≡ false) × (x.channel ≢ channel)) → IsFirst channel i n (x ∷ xs)
    by later (inl h) = record {
      token = x;
      place = 0;
      counted = some_is (ap (λ b. cond b (Some i) (position_from (λ (t : Token). t.channel == channel) (i + 1) xs)) (sym h.0) ∙ e) ∙ omega arith;
      at = refl;
      its = h.1;
      alone = ap (λ b. cond b (x ∷ []) []) h.0;
    }
    by later (inr h) =
        let rest = later (ap (λ b. cond b (Some i) (position_from (λ (t : Token). t.channel == channel) (i + 1) xs)) (sym h.0) ∙ e) in
        record {
          token = rest.token;
          place = suc rest.place;
          counted = omega (arith, rest.counted);
          at = rest.at;
          its = rest.its;
          alone = first_taken rest.place ∙ ap (λ b. cond b (x ∷ on_channel channel (take (rest.place + 1) xs)) (on_channel channel (take (rest.place + 1) xs))) h.0 ∙ rest.alone;
        }

none_there : (channel i : ℕ) (xs : List Token) → position_from (λ (t : Token). t.channel == channel) i xs ≡ None → on_channel channel xs ≡ []
none_there channel i [] e = refl
none_there channel i (x ∷ xs) e = by (λ rest. none_there channel (i + 1) xs rest) (eqb_tells x.channel channel)
  where
    some_none : {a : ℕ} → Some a ≡ None → ⊥
    some_none e = cc

    by : (position_from (λ (t : Token). t.channel == channel) (i + 1) xs ≡ None → on_channel channel xs ≡ [])
        → ((x.channel == channel ≡ true) × (x.channel ≡ channel)) ⊎ ((x.channel == channel ≡ false) × (x.channel ≢ channel)) → on_channel channel (x ∷ xs) ≡ []
    by later (inl h) = absurd (some_none (ap (λ b. cond b (Some i) (position_from (λ (t : Token). t.channel == channel) (i + 1) xs)) (sym h.0) ∙ e))
    by later (inr h) = ap (λ b. cond b (x ∷ on_channel channel xs) (on_channel channel xs)) h.0
        ∙ later (ap (λ b. cond b (Some i) (position_from (λ (t : Token). t.channel == channel) (i + 1) xs)) (sym h.0) ∙ e)

get_dropped : {X : Type 0} (n k : ℕ) (xs : List X) → slice_get (drop n xs) k ≡ slice_get xs (n + k)
get_dropped zero k xs = let same : k ≡ 0 + k = omega arith in ap (slice_get xs) same
get_dropped (suc n) k [] = refl
get_dropped (suc n) k (x ∷ xs) = let same : suc (n + k) ≡ suc n + k = omega arith in get_dropped n k xs ∙ ap (slice_get (x ∷ xs)) same

-- What is found behind a part of the tape is the next of its channel.
pub next_found : (channel from n : ℕ) (tape : List Token) → position (λ (t : Token). t.channel == channel) (take (length tape - from) (drop from tape)) ≡ Some n → IsNextOn channel from tape (from + n)
next_found channel from n tape e' =
    let e = ap (position (λ (t : Token). t.channel == channel)) (sym (take_rest tape from)) ∙ e' in
    let f = first_is channel 0 n (drop from tape) (sym (position_from-zero (λ (t : Token). t.channel == channel) (drop from tape)) ∙ e) in
    let more : from + n + 1 ≡ from + (f.place + 1) = omega (arith, f.counted) in
    let there : from + n ≡ from + f.place = omega (arith, f.counted) in
    record {
      token = f.token;
      at = ap (slice_get tape) there ∙ sym (get_dropped from f.place tape) ∙ f.at;
      its = f.its;
      searched = ap (λ k. on_channel channel (take k tape)) more ∙ ap (on_channel channel) (take-add from (f.place + 1) tape)
          ∙ filter-append (λ t. t.channel == channel) (take from tape) (take (f.place + 1) (drop from tape)) ∙ ap (λ l. on_channel channel (take from tape) ++ l) f.alone;
    }

-- .. and where nothing is found there is none.
pub none_found : (channel from : ℕ) (tape : List Token) → position (λ (t : Token). t.channel == channel) (take (length tape - from) (drop from tape)) ≡ None → on_channel channel tape ≡ on_channel channel (take from tape)
none_found channel from tape e' =
    let e = ap (position (λ (t : Token). t.channel == channel)) (sym (take_rest tape from)) ∙ e' in
    ap (on_channel channel) (sym (take-append-drop from tape)) ∙ filter-append (λ t. t.channel == channel) (take from tape) (drop from tape)
    ∙ ap (λ l. on_channel channel (take from tape) ++ l) (none_there channel 0 (drop from tape) (sym (position_from-zero (λ (t : Token). t.channel == channel) (drop from tape)) ∙ e)) ∙ append-nil (on_channel channel (take from tape))

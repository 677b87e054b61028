-- The messages of a list, one after another, by the player.
use Rattle.std.proofs.Common.{ℕ, ◌+◌, ◌≡◌, ◌≢◌, ◌≤◌, ◌<◌, ◌==◌, nat_lt, ◌∙◌, cond, Bool, true, false, List, [], ◌∷◌, ◌++◌, refl, sym, ap, subst, arith, length, take, get_or, Option, Some, zero, suc, append_assoc, append-nil}
use Rattle.std.proofs.lemmas.Bool.Decides.{nat_tests}
use Rattle.std.proofs.lemmas.List.{take_more, take_all, map-append}
use Rattle.std.proofs.lemmas.Option.{slice_get-get_or}
use Rattle.std.specs.Prelude.{slice_get, slice_index}
use Rattle.cy_msg.specs.declared.token.Token.{Token}
use Rattle.cy_msg.specs.Tokens.{on_channel, IsTimed, IsNumbered}
use Rattle.wake_core.specs.declared.route.Route.{Route}
use Rattle.wake_core.specs.Plain.{to_play_from}
use Rattle.wake_core.specs.Run.{writes_from}
use Rattle.wake_core.specs.Fields.{IsWithin}
use Rattle.wake_core.specs.Rest.{IsToPlay}
use Rattle.wake_core.specs.Serial.{last_clock}
use Rattle.wake_core.specs.TapeLaws.{PutLaws}
use Rattle.cy_table.specs.declared.pass.Pass.{Pass}
use Rattle.cy_table.specs.declared.table.FlagTable.{FlagTable}
use Rattle.cy_table.specs.Seats.{Seat, Entry}
use Rattle.cy_table.specs.Seats.Entry.{Clock, Closing}
use Rattle.cy_table.specs.Steps.{HasRaised}
use Rattle.cy_table.specs.Calls.{made_of, seat_of, CanClose, CanRaise}
use Rattle.cy_msg.specs.declared.stop.Stop.{Stop}
use Rattle.cy_run.specs.Playing.{IsFreePlayer, IsNextFor, IsRaisedBefore, after_play, after_end, clocks_of, IsToBePlayed, IsPlayed, PlaysOn}

-- There is one message more of its channel in a list than before it.
one_more : (xs : List Token) (i : ℕ) (t : Token) → slice_get xs i ≡ Some t → length (on_channel t.channel (take i xs)) + 1 ≤ length (on_channel t.channel xs)
one_more [] i t e = cc
one_more (x ∷ xs) zero t e = subst (λ (y : Token). 1 ≤ length (on_channel y.channel (x ∷ xs))) (same e) (first (x.channel == x.channel) (equal x.channel))
  where
    same : Some x ≡ Some t → x ≡ t
    same e = cc

    equal : (n : ℕ) → (n == n) ≡ true
    equal n = grind (arith, nat_tests)

    first : (b : Bool) → b ≡ true → 1 ≤ length (cond b (x ∷ on_channel x.channel xs) (on_channel x.channel xs))
    first true e = omega arith
    first false e = cc
one_more (x ∷ xs) (suc i) t e = by (x.channel == t.channel) (one_more xs i t e)
  where
    by : (b : Bool) → length (on_channel t.channel (take i xs)) + 1 ≤ length (on_channel t.channel xs)
        → length (cond b (x ∷ on_channel t.channel (take i xs)) (on_channel t.channel (take i xs))) + 1 ≤ length (cond b (x ∷ on_channel t.channel xs) (on_channel t.channel xs))
    by true l = omega (arith, l)
    by false l = l

within_is : (m n k s : ℕ) → m + 1 ≤ n → s ≡ m + 1 → n ≡ k → s ≤ k
within_is m n k s a b c = omega (arith, a, b, c)

-- The message at a place.
at_place : (tokens items : List Token) (i : ℕ) (d : Token) → items ≡ tokens → i < length items → slice_get tokens i ≡ Some (get_or items i d)
at_place tokens items i d same lt = ap (λ l. slice_get l i) (sym same) ∙ slice_get-get_or items i d lt

-- So many messages were played before it.
pub all_played : (tokens items : List Token) (i : ℕ) (d : Token) (played : List Token) → items ≡ tokens → i < length items → played ≡ take i tokens → length played ≡ i
all_played tokens items i d played same lt is = ap length is ∙ subst (λ l. length (take i l) ≡ i) same (taken items i lt)
  where
    taken : (l : List Token) (i : ℕ) → i < length l → length (take i l) ≡ i
    taken l i lt = grind (arith, Rattle.std.proofs.lemmas.List.length-take, lt)

pub next_for : (t : FlagTable) (tokens items : List Token) (i : ℕ) (d : Token) (p q : Pass) → IsTimed tokens → IsNumbered tokens → IsToPlay (made_of t) tokens → items ≡ tokens → i < length items
    → PlaysOn t tokens i p q → IsRaisedBefore (i + 1) (seat_of q) → IsNextFor (seat_of q) (get_or items i d)
next_for t tokens items i d p q timed numbered made same lt on before =
    let token = get_or items i d in let at : slice_get tokens i ≡ Some token = at_place tokens items i d same lt in let v = seat_of q in let seated = on.mine.free.seated in record {
      later = on.clock token at;
      unwritten = ap (λ (r : List Route). writes_from 0 r token.channel) seated.routes ∙ made.unwritten i token at;
      next = numbered i token at ∙ ap (λ l. length (on_channel token.channel l) + 1) (sym on.played);
      within = within_is (length (on_channel token.channel (take i tokens))) (length (on_channel token.channel tokens)) (slice_index v.counts token.channel) token.seq (one_more tokens i token at) (numbered i token at)
          (made.counted token.channel ∙ ap (λ l. slice_index l token.channel) (sym seated.counts));
      raised = λ s there all. before s there ∙ just_before i s.after (all_played tokens items i d v.played same lt on.played) all;
    }
  where
    just_before : (i after : ℕ) → {k : ℕ} → k ≡ i → k ≡ after → nat_lt after (i + 1) ≡ true
    just_before i after a b = grind (arith, nat_tests, a, b)

-- The stop is raised when as many messages were played as it says, and no later.
pub raise_now : (t : FlagTable) (p : Pass) (stop : Option Stop) (given : Stop) (played : ℕ) → IsFreePlayer t p → (made_of t).stop ≡ stop → stop ≡ Some given → length (seat_of p).played ≡ played
    → IsRaisedBefore played (seat_of p) → given.after ≡ played → CanRaise t p
raise_now t p stop given played mine is some all before now = record {
  at = mine.free.seated.at;
  player = mine.player;
  may = record { owes = mine.free.owes; given = given; there = there; unraised = before given there ∙ not_yet given.after played now; played = all ∙ sym now };
}
  where
    there : (seat_of p).stop ≡ Some given
    there = mine.free.seated.stop ∙ (is ∙ some)

    not_yet : (a b : ℕ) → a ≡ b → nat_lt a b ≡ false
    not_yet a b e = grind (arith, nat_tests, e)

pub raised_already : (t : FlagTable) (p : Pass) (stop : Option Stop) (given : Stop) (played : ℕ) → IsFreePlayer t p → (made_of t).stop ≡ stop → stop ≡ Some given → IsRaisedBefore played (seat_of p) → given.after ≢ played
    → IsRaisedBefore (played + 1) (seat_of p)
raised_already t p stop given played mine is some before not s there = before s there ∙ as_before s.after (λ e. not (ap (λ (x : Stop). x.after) (same (sym some ∙ (sym is ∙ (sym mine.free.seated.stop ∙ there)))) ∙ e))
  where
    same : Some given ≡ Some s → given ≡ s
    same e = cc

    as_before : (a : ℕ) → a ≢ played → nat_lt a played ≡ nat_lt a (played + 1)
    as_before a ne = grind (arith, nat_tests, ne)

-- The stop is raised on the way, which changes nothing else.
pub plays_raised : (t : FlagTable) (tokens : List Token) (i : ℕ) (p q u : Pass) → PlaysOn t tokens i p q → IsFreePlayer t u → seat_of u ≡ record (seat_of q) { raised = (seat_of u).raised } → PlaysOn t tokens i p u
plays_raised t tokens i p q u on mine seat = record {
  mine = mine;
  played = ap (λ (v : Seat). v.played) seat ∙ on.played;
  noted = ap (λ (v : Seat). v.note) seat ∙ on.noted;
  split = ap (λ (v : Seat). v.split) seat ∙ on.split;
  bound = subst (λ n. n ≤ last_clock) (sym (ap (λ (v : Seat). v.clock) seat)) on.bound;
  clock = λ token at. subst (λ n. n ≤ token.time) (sym (ap (λ (v : Seat). v.clock) seat)) (on.clock token at);
}

pub raised_on : (q u : Pass) (token : Token) (n : ℕ) → seat_of u ≡ after_play (seat_of q) token → IsRaisedBefore n (seat_of q) → IsRaisedBefore n (seat_of u)
raised_on q u token n seat before s there = ap (λ (v : Seat). v.raised) seat ∙ before s (sym (ap (λ (v : Seat). v.stop) seat) ∙ there)

pub raised_first : (v : Seat) → v.raised ≡ false → IsRaisedBefore 0 v
raised_first v un s there = un ∙ sym (none s.after)
  where
    none : (n : ℕ) → nat_lt n 0 ≡ false
    none n = grind (arith, nat_tests)

-- One message more was noted.
noted_more : (old now : List Entry) (tokens items : List Token) (i : ℕ) (d : Token) → items ≡ tokens → i < length items → now ≡ old ++ clocks_of (take i tokens)
    → now ++ Clock (get_or items i d).time ∷ [] ≡ old ++ clocks_of (take (i + 1) tokens)
noted_more old now tokens items i d same lt is =
    ap (λ l. l ++ Clock (get_or items i d).time ∷ []) is ∙ (append_assoc old (clocks_of (take i tokens)) (Clock (get_or items i d).time ∷ [])
    ∙ ap (λ l. old ++ l) (sym (map-append (λ (token : Token). Clock token.time) (take i tokens) (get_or items i d ∷ [])) ∙ ap clocks_of (sym (subst (λ l. take (i + 1) l ≡ take i l ++ get_or items i d ∷ []) same (take_more items i d lt)))))

pub plays_more : (t : FlagTable) (tokens items : List Token) (i : ℕ) (d : Token) (p q u : Pass) → IsTimed tokens → items ≡ tokens → i < length items → PlaysOn t tokens i p q
    → IsFreePlayer t u → seat_of u ≡ after_play (seat_of q) (get_or items i d) → (seat_of u).clock ≤ last_clock → PlaysOn t tokens (i + 1) p u
plays_more t tokens items i d p q u timed same lt on mine seat bound =
    let token = get_or items i d in let at : slice_get tokens i ≡ Some token = at_place tokens items i d same lt in record {
      mine = mine;
      played = ap (λ (v : Seat). v.played) seat ∙ (ap (λ l. l ++ token ∷ []) on.played ∙ sym (subst (λ l. take (i + 1) l ≡ take i l ++ token ∷ []) same (take_more items i d lt)));
      noted = ap (λ (v : Seat). v.note) seat ∙ noted_more (seat_of p).note (seat_of q).note tokens items i d same lt on.noted;
      split = ap (λ (v : Seat). v.split) seat ∙ on.split;
      bound = bound;
      clock = λ later e. subst (λ n. n ≤ later.time) (sym (ap (λ (v : Seat). v.clock) seat)) (timed i token later at e);
    }

-- At the start of the list.
pub plays_begin : (t : FlagTable) (tokens : List Token) (p : Pass) → IsToBePlayed t tokens p → PlaysOn t tokens 0 p p
plays_begin t tokens p o = record {
  mine = o.mine;
  played = o.none_played;
  noted = sym (append-nil (seat_of p).note);
  split = refl;
  bound = subst (λ n. n ≤ last_clock) (sym o.start) (omega arith);
  clock = λ token e. subst (λ n. n ≤ token.time) (sym o.start) (omega arith);
}

-- At its end the stop is raised, where one is given.
pub raised_all : PutLaws → (t : FlagTable) (tokens : List Token) (n : ℕ) (u : Pass) → IsToPlay (made_of t) tokens → IsWithin (made_of t).routes (made_of t).counts (made_of t).stop → length tokens ≤ n
    → IsFreePlayer t u → IsRaisedBefore (n + 1) (seat_of u) → HasRaised (seat_of u)
raised_all law t tokens n u made within le mine before s there =
    before s there ∙ at_last s.after n (length tokens) (to_play_from (made_of t).routes 0 (made_of t).counts) (within.after s (sym mine.free.seated.stop ∙ there)) (law.all (made_of t) tokens made) le
  where
    at_last : (after n m k : ℕ) → after ≤ k → k ≡ m → m ≤ n → nat_lt after (n + 1) ≡ true
    at_last after n m k a b c = grind (arith, nat_tests, a, b, c)

-- .. and all was played.
pub can_close : PutLaws → (t : FlagTable) (tokens items : List Token) (i : ℕ) (p q : Pass) → IsToPlay (made_of t) tokens → items ≡ tokens → length items ≤ i → PlaysOn t tokens i p q → HasRaised (seat_of q) → CanClose t q
can_close law t tokens items i p q made same le on raised = let seated = on.mine.free.seated in record {
  at = seated.at;
  player = on.mine.player;
  may = record { owes = on.mine.free.owes; raised = raised; all = whole };
}
  where
    whole : length (seat_of q).played ≡ to_play_from (seat_of q).routes 0 (seat_of q).counts
    whole = let seated = on.mine.free.seated in ap length (on.played ∙ take_all i tokens (subst (λ l. length l ≤ i) same le)) ∙ (sym (law.all (made_of t) tokens made)
        ∙ (ap (λ (r : List Route). to_play_from r 0 (made_of t).counts) (sym seated.routes) ∙ ap (to_play_from (seat_of q).routes 0) (sym seated.counts)))

pub played_all : (t : FlagTable) (tokens items : List Token) (i : ℕ) (p q u : Pass) → items ≡ tokens → length items ≤ i → PlaysOn t tokens i p q → HasRaised (seat_of q) → IsFreePlayer t u → seat_of u ≡ after_end (seat_of q) → IsPlayed t tokens p u
played_all t tokens items i p q u same le on raised mine seat =
    let whole : take i tokens ≡ tokens = take_all i tokens (subst (λ l. length l ≤ i) same le) in record {
      mine = mine;
      exact = ap (λ (v : Seat). v.played) seat ∙ (on.played ∙ whole);
      clock = ap (λ (v : Seat). v.clock) seat;
      closed = ap (λ (v : Seat). v.closing) seat;
      raised = λ s there. ap (λ (v : Seat). v.raised) seat ∙ raised s (sym (ap (λ (v : Seat). v.stop) seat) ∙ there);
      noted = ap (λ (v : Seat). v.note) seat ∙ (ap (λ l. l ++ Clock last_clock ∷ Closing true ∷ []) (on.noted ∙ ap (λ l. (seat_of p).note ++ clocks_of l) whole) ∙ append_assoc (seat_of p).note (clocks_of tokens) (Clock last_clock ∷ Closing true ∷ []));
      split = ap (λ (v : Seat). v.split) seat ∙ on.split;
    }

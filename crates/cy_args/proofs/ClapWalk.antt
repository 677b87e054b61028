-- `clap` walks over the options that words spell, and takes them.
use Rattle.std.proofs.Common.{◌≡◌, ◌+◌, ◌==◌, ◌&&◌, ◌||◌, ℕ, List, [], ◌∷◌, ◌++◌, Bool, true, false, not, Option, Some, None, if◌then◌else◌, refl, sym, ap, ◌∙◌, subst, true≢false, arith}
use Rattle.std.proofs.Common.{append-nil, length, length-append, min, ◌<◌, drop, take, flat_map, map, option_to_list, bytes_eq, append_assoc}
use Rattle.std.specs.Prelude.{nat_lt, option_and_then}
use Rattle.std.specs.List.{find, fold, list_all, position_or_len}
use Rattle.std.specs.Option.{option_map_or}
use Rattle.std.proofs.lemmas.Grind.{common_steps, flat_map-append}
use Rattle.clap.specs.Lexer.{has_byte, usize_max, long_of, short_of, long_of_rest, short_of_rest, strip_byte}
use Rattle.clap.specs.Walk.{arg_by_index, is_pending, pushed, to_positional, value, Held, Row, Rule, Text, Walk, after_flag, after_step, arg_by_id, arg_by_long, has_row, idle, long_met, long_or_other, option, option_word, plain_word, reacted, settled, short_or_plain, subcommand_met, subcommand_or_other, next, trailing, used, used_by_id, walk_from, walked, word_met, Waiting}
use Rattle.clap.specs.Simple.{Shape}
use Rattle.clap.specs.Takes.{positional_passes, bundle_passes, settle_passes, turn_passes, use_passes, walk_passes, long_passes, flag_word_passes, step_passes}
use Rattle.clap.proofs.WalkLemmas.{both}
use Rattle.cy_args.specs.Options.{Alone, Apart, Filled, Flag, Given, Joined, Known, Options, Place, Value, filled_in, hyphened, is_known, kind_of, name_in, places, spelled, value_in, values_under}
use Rattle.cy_args.specs.Words.{is_word}
use Rattle.cy_args.proofs.OptionsRead.{AreNames, before_equals, behind_equals, equals_ends, first_equals, flag_known, is_name, itself, name_known, no_equals, place_known, valued_known}
use Rattle.cy_args.proofs.ClapOptions.{Has, built_as, built_at, built_from, flag_used, has_id, has_rule, id_rule, index_rule, kept_row, no_row, option_used, place_used, unkept}

-- ---- what a word is

no_byte : (xs : Text) → no_equals xs ≡ true → has_byte 61 xs ≡ false
no_byte [] e = refl
no_byte (x ∷ xs) e = by (x == 61) (no_byte xs) e
  where
    by : (t : Bool) → (no_equals xs ≡ true → has_byte 61 xs ≡ false) → (not t && no_equals xs) ≡ true → (t || has_byte 61 xs) ≡ false
    by true rest e = absurd (true≢false (sym e))
    by false rest e = rest e

some_byte : (xs v : Text) → has_byte 61 (xs ++ 61 ∷ v) ≡ true
some_byte [] v = refl
some_byte (x ∷ xs) v = by (x == 61) (some_byte xs v)
  where
    by : (t : Bool) → has_byte 61 (xs ++ 61 ∷ v) ≡ true → (t || has_byte 61 (xs ++ 61 ∷ v)) ≡ true
    by true rest = refl
    by false rest = rest

whole : (xs : Text) → take (length xs) xs ≡ xs
whole xs = grind (arith, common_steps)

-- an option, with the value in its word where there is one
pub record IsLong (word name : Text) (value : Option Text) : Type 0 where
  pub not_dashes : bytes_eq word (45 ∷ 45 ∷ []) ≡ false
  pub is_long : long_of word ≡ Some (name, value)

alone_long : (name : Text) → is_name name ≡ true → IsLong (hyphened name) name None
alone_long [] e = absurd (true≢false (sym e))
alone_long (x ∷ xs) e = record {
  not_dashes = refl;
  is_long = λ i. Some (
    (ap (λ (n : ℕ). take n (x ∷ xs)) (equals_ends (x ∷ xs) e) ∙ whole (x ∷ xs)) i,
    if no_byte (x ∷ xs) e i then Some (drop (position_or_len (λ b. b == 61) (x ∷ xs) + 1) (x ∷ xs)) else None,
  );
}

joined_long : (name v : Text) → is_name name ≡ true → IsLong (hyphened name ++ 61 ∷ v) name (Some v)
joined_long [] v e = absurd (true≢false (sym e))
joined_long (x ∷ xs) v e =
    let at = first_equals (x ∷ xs) v e in
    record {
      not_dashes = refl;
      is_long = (λ i. Some (
        take (at i) (x ∷ xs ++ 61 ∷ v),
        if some_byte (x ∷ xs) v i then Some (drop (at i + 1) (x ∷ xs ++ 61 ∷ v)) else None,
      )) ∙ (λ i. Some (before_equals (x ∷ xs) v i, Some (behind_equals (x ∷ xs) v i)));
    }

-- ---- one word

-- where the walk stands before the place of a number
abbrev pub at_place : ℕ → Held → Walk
at_place i h = record (walk_from h) { position = i }

-- where the walk stands after a word that is an option of this rule, with this value in it
abbrev met_by : ℕ → List Rule → Text → Option Text → Held → Option Rule → Walk
met_by i c word v h a =
    after_step c word (at_place i h) (after_flag c idle word (long_met c a v h).0 (long_met c a v h).1).0 (after_flag c idle word (long_met c a v h).0 (long_met c a v h).1).1

abbrev waits_for : ℕ → Text → List Rule → Held → Walk
waits_for i name c h = record (at_place i (record (settled c h) { pending = Some (name, []) })) { waiting = option name }

abbrev has_value_of : Text → Text → List Rule → Held → Held
has_value_of name v c h = record (settled c h) { pending = Some (name, v ∷ []) }

long_walked : (i : ℕ) (c : List Rule) (h : Held) (word name : Text) (v : Option Text) → IsLong word name v → walked c [] (at_place i h) word ≡ met_by i c word v h (arg_by_long c name)
unfolding walked
long_walked i c h word name v long =
    ap (λ (t : Bool). after_step c word (at_place i h) (if t then (h, trailing i) else long_or_other c idle word (long_of word) h).0
    (if t then (h, trailing i) else long_or_other c idle word (long_of word) h).1) long.not_dashes
    ∙ ap (λ (x : Option (Text × Option Text)). after_step c word (at_place i h) (long_or_other c idle word x h).0 (long_or_other c idle word x h).1) long.is_long

name_met : (i : ℕ) (name : Text) (c : List Rule) (h : Held) → is_name name ≡ true → Has c name Value → walked c [] (at_place i h) (hyphened name) ≡ waits_for i name c h
name_met i name c h plain has = long_walked i c h (hyphened name) name None (alone_long name plain) ∙ ap (met_by i c (hyphened name) None h) has.by_long

-- a word that doesn't begin with a hyphen
pub record IsPlain (word : Text) : Type 0 where
  pub not_dashes : bytes_eq word (45 ∷ 45 ∷ []) ≡ false
  pub not_long : long_of word ≡ None
  pub not_short : short_of word ≡ None

pub word_is_plain : (word : Text) → is_word word ≡ true → IsPlain word
word_is_plain [] e = absurd (true≢false (sym e))
word_is_plain (b ∷ rest) e = by (b == 45) refl e
  where
    by : (t : Bool) → (b == 45) ≡ t → is_word (b ∷ rest) ≡ true → IsPlain (b ∷ rest)
    by true is e = absurd (true≢false (sym e ∙ ap (λ (x : Bool). not x && Rattle.std.specs.Prelude.nat_le (length (b ∷ rest)) Rattle.cy_args.specs.Words.longest_word) is))
    by false is e = record {
      not_dashes = ap (λ (x : Bool). x && bytes_eq rest (45 ∷ [])) is;
      not_long = ap (λ (x : Bool). option_and_then long_of_rest (option_and_then (strip_byte 45) (if x then Some rest else None))) is;
      not_short = ap (λ (x : Bool). option_and_then short_of_rest (if x then Some rest else None)) is;
    }

pub plain_met : (c : List Rule) (waiting : Waiting) (position : ℕ) (word : Text) (h : Held) → IsPlain word → subcommand_met [] waiting word ≡ None
    → word_met c [] false waiting position word h ≡ plain_word c waiting word h
plain_met c waiting position word h plain none =
    ap (λ (x : Option Text). subcommand_or_other c x waiting position word h) none
    ∙ (ap (λ (t : Bool). if t then (h, trailing position) else long_or_other c waiting word (long_of word) h) plain.not_dashes
    ∙ (ap (λ (x : Option (Text × Option Text)). long_or_other c waiting word x h) plain.not_long ∙ ap (λ (x : Option Text). short_or_plain c waiting word x h) plain.not_short))

-- the word behind a name
abbrev value_by : ℕ → List Rule → Text → Text → Held → Option Rule → Walk
value_by i c name v h a =
    after_step c v (waits_for i name c h) (option_word a name v (waits_for i name c h).held).0 (next (option_word a name v (waits_for i name c h).held).1)

value_met : (i : ℕ) (name v : Text) (c : List Rule) (h : Held) → IsPlain v → Has c name Value → walked c [] (waits_for i name c h) v ≡ at_place i (has_value_of name v c h)
unfolding walked
value_met i name v c h plain has =
    ap (λ p. after_step c v (waits_for i name c h) p.0 p.1) (plain_met c (option name) i v (waits_for i name c h).held plain refl)
    ∙ (ap (value_by i c name v h) has.by_id.1
    ∙ ap (λ (t : Bool). record (at_place i (has_value_of name v c h)) { waiting = if nat_lt (if t then 1 else 0) 1 then option name else idle }) (itself name))

-- ---- what the walk asks of one word

-- an option of this rule is a use that passes
abbrev asks_by : ℕ → Shape → Text → Option Text → Held → Option Rule → Bool
asks_by i s word v h a = long_passes s.rules s.args_override_self a v h && step_passes s i
    (after_flag s.rules idle word (long_met s.rules a v h).0 (long_met s.rules a v h).1).0 (after_flag s.rules idle word (long_met s.rules a v h).0 (long_met s.rules a v h).1).1

abbrev pub Settles : Shape → Held → Type 0
Settles s h = settle_passes s.rules s.args_override_self h ≡ true

long_asked : (i : ℕ) (s : Shape) (h : Held) (word name : Text) (v : Option Text) → IsLong word name v → turn_passes s [] (at_place i h) word ≡ asks_by i s word v h (arg_by_long s.rules name)
long_asked i s h word name v long =
    let met : Bool → Option (Text × Option Text) → Held × Rattle.clap.specs.Walk.Step = λ t x. if t then (h, trailing i) else long_or_other s.rules idle word x h in
    ap (λ (t : Bool). (t || flag_word_passes s.rules s.args_override_self (long_of word) word h) && step_passes s i (met t (long_of word)).0 (met t (long_of word)).1) long.not_dashes
    ∙ ap (λ (x : Option (Text × Option Text)). flag_word_passes s.rules s.args_override_self x word h && step_passes s i (long_or_other s.rules idle word x h).0 (long_or_other s.rules idle word x h).1) long.is_long

option_passes_use : (name v : Text) (again : Bool) (rows : List Row) → has_row name rows ≡ false → use_passes again (built_as name Value) (v ∷ []) rows ≡ true
option_passes_use name v again rows e = ap (λ (t : Bool). (not t || again) && true) e

place_passes_use : (j : ℕ) (name v : Text) (again : Bool) (rows : List Row) → has_row name rows ≡ false → use_passes again (built_at j name Place) (v ∷ []) rows ≡ true
place_passes_use j name v again rows e = ap (λ (t : Bool). (not t || again) && true) e

flag_passes_use : (name : Text) (again : Bool) (rows : List Row) → has_row name rows ≡ false → use_passes again (built_as name Flag) [] rows ≡ true
flag_passes_use name again rows e = ap (λ (t : Bool). (not t || again) && true) e

name_asked : (i : ℕ) (name : Text) (s : Shape) (h : Held) → is_name name ≡ true → Has s.rules name Value → Settles s h → turn_passes s [] (at_place i h) (hyphened name) ≡ true
name_asked i name s h plain has settles =
    long_asked i s h (hyphened name) name None (alone_long name plain) ∙ (ap (asks_by i s (hyphened name) None h) has.by_long ∙ ap (λ (t : Bool). t && true) settles)

value_asked : (i : ℕ) (name v : Text) (s : Shape) (h : Held) → IsPlain v → turn_passes s [] (waits_for i name s.rules h) v ≡ true
value_asked i name v s h plain =
    let held = (waits_for i name s.rules h).held in
    let met = plain_met s.rules (option name) i v held plain refl in
    ap (λ p. (bytes_eq v (45 ∷ 45 ∷ []) || flag_word_passes s.rules s.args_override_self (long_of v) v held) && step_passes s i p.0 p.1) met
    ∙ (ap (λ (t : Bool). (t || flag_word_passes s.rules s.args_override_self (long_of v) v held) && true) plain.not_dashes
    ∙ (ap (λ (x : Option (Text × Option Text)). flag_word_passes s.rules s.args_override_self x v held && true) plain.not_long
    ∙ ap (λ (x : Option Text). option_map_or (λ flags. bundle_passes s.rules s.args_override_self flags held) x true && true) plain.not_short))

-- ---- the words of one thing that is given

-- the rows so far are those of the options so far, and what is pending passes
pub record Ready (s : Shape) (done : List Given) (h : Held) : Type 0 where
  pub rows : (settled s.rules h).rows ≡ map kept_row done
  pub settles : Settles s h

-- the walk goes on from here to there over these words, whatever words follow
pub record GoesTo (s : Shape) (w : Walk) (words : List Text) (to : Walk) : Type 0 where
  pub walks : (rest : List Text) → fold (walked s.rules []) w (words ++ rest) ≡ fold (walked s.rules []) to rest
  pub passes : (rest : List Text) → walk_passes s [] to rest ≡ true → walk_passes s [] w (words ++ rest) ≡ true

pub one_goes : (s : Shape) (w to : Walk) (word : Text) → walked s.rules [] w word ≡ to → turn_passes s [] w word ≡ true → GoesTo s w (word ∷ []) to
unfolding walk_passes
one_goes s w to word step asked = record {
  walks = λ rest. ap (λ (x : Walk). fold (walked s.rules []) x rest) step;
  passes = λ rest e. ap (λ (t : Bool). t && walk_passes s [] (walked s.rules [] w word) rest) asked ∙ (ap (λ (x : Walk). walk_passes s [] x rest) step ∙ e);
}

pub then_goes : (s : Shape) (w mid to : Walk) (words more : List Text) → GoesTo s w words mid → GoesTo s mid more to → GoesTo s w (words ++ more) to
then_goes s w mid to words more a b = record {
  walks = λ rest. ap (fold (walked s.rules []) w) (append_assoc words more rest) ∙ (a.walks (more ++ rest) ∙ b.walks rest);
  passes = λ rest e. ap (walk_passes s [] w) (append_assoc words more rest) ∙ a.passes (more ++ rest) (b.passes rest e);
}

-- the names of the places that are filled, and the number of the next one
abbrev names_in : List Given → List Text
names_in done = flat_map filled_in done

pub record Steps (s : Shape) (i : ℕ) (h : Held) (words : List Text) (done : List Given) : Type 0 where
  pub number : ℕ
  pub counts : number ≡ length (names_in done) + 1
  pub to : Held
  pub goes : GoesTo s (at_place i h) words (at_place number to)
  pub ready : Ready s done to

map_more : (done : List Given) (g : Given) → map kept_row (done ++ g ∷ []) ≡ map kept_row done ++ kept_row g ∷ []
map_more [] g = refl
map_more (d ∷ done) g = ap (λ (l : List Row). kept_row d ∷ l) (map_more done g)

-- no option of the name is among these
abbrev Fresh : Text → List Given → Type 0
Fresh name done = find (has_id name) (map kept_row done) ≡ None

one_more : (done : List Given) (g : Given) (rows after_it : List Row) → rows ≡ map kept_row done → after_it ≡ rows ++ kept_row g ∷ [] → after_it ≡ map kept_row (done ++ g ∷ [])
one_more done g rows after_it is more = more ∙ (ap (λ (l : List Row). l ++ kept_row g ∷ []) is ∙ sym (map_more done g))

-- an option fills no place
still : (done : List Given) (g : Given) (i : ℕ) → filled_in g ≡ [] → i ≡ length (names_in done) + 1 → i ≡ length (names_in (done ++ g ∷ [])) + 1
still done g i none counts =
    counts ∙ ap (λ (l : List Text). length l + 1)
    (sym (flat_map-append filled_in done (g ∷ []) ∙ (ap (λ (l : List Text). names_in done ++ (l ++ [])) none ∙ append-nil (names_in done))))

-- an option that is one word is used at once
pub record IsUsed (i : ℕ) (s : Shape) (h : Held) (word : Text) (v : Option Text) (a : Rule) (values : List Text) : Type 0 where
  pub met : met_by i s.rules word v h (Some a) ≡ at_place i (reacted s.rules a values h)
  pub asked : asks_by i s word v h (Some a) ≡ ((settle_passes s.rules s.args_override_self h && use_passes s.args_override_self a values (settled s.rules h).rows) && true)
  pub passes : use_passes s.args_override_self a values (settled s.rules h).rows ≡ true

word_steps : (s : Shape) (i : ℕ) (done : List Given) (h : Held) (g : Given) (word : Text) (v : Option Text) (a : Rule) (values : List Text) → IsLong word (name_in g) v
    → arg_by_long s.rules (name_in g) ≡ Some a → IsUsed i s h word v a values → used a values (settled s.rules h).rows ≡ (settled s.rules h).rows ++ kept_row g ∷ []
    → filled_in g ≡ [] → i ≡ length (names_in done) + 1 → Ready s done h
    → Steps s i h (word ∷ []) (done ++ g ∷ [])
word_steps s i done h g word v a values long has is_used more none counts ready = record {
  number = i;
  counts = still done g i none counts;
  to = reacted s.rules a values h;
  goes = one_goes s (at_place i h) _ word (long_walked i s.rules h word (name_in g) v long ∙ (ap (met_by i s.rules word v h) has ∙ is_used.met))
      (long_asked i s h word (name_in g) v long ∙ (ap (asks_by i s word v h) has ∙ (is_used.asked
      ∙ (ap (λ (t : Bool). (t && use_passes s.args_override_self a values (settled s.rules h).rows) && true) ready.settles ∙ ap (λ (t : Bool). t && true) is_used.passes))));
  ready = record { rows = one_more done g (settled s.rules h).rows _ ready.rows more; settles = refl };
}

-- a name waits for its value, or a place has it, and this will be used
value_ready : (s : Shape) (done : List Given) (h : Held) (g : Given) (name v : Text) (a : Rule) → arg_by_id s.rules name ≡ Some a → use_passes s.args_override_self a (v ∷ []) (settled s.rules h).rows ≡ true
    → used a (v ∷ []) (settled s.rules h).rows ≡ (settled s.rules h).rows ++ kept_row g ∷ [] → Ready s done h → Ready s (done ++ g ∷ []) (has_value_of name v s.rules h)
value_ready s done h g name v a has passes more ready =
    let rows = (settled s.rules h).rows in
    record {
      rows = one_more done g rows _ ready.rows (ap (λ (a : Option Rule). used_by_id a (v ∷ []) rows) has ∙ more);
      settles = ap (λ (a : Option Rule). option_map_or (λ x. use_passes s.args_override_self x (v ∷ []) rows) a true) has ∙ passes;
    }

apart_steps : (s : Shape) (i : ℕ) (done : List Given) (h : Held) (name v : Text) → is_name name ≡ true → Has s.rules name Value → is_word v ≡ true
    → find (has_id name) (settled s.rules h).rows ≡ None → i ≡ length (names_in done) + 1 → Ready s done h
    → Steps s i h (hyphened name ∷ v ∷ []) (done ++ Apart name v ∷ [])
apart_steps s i done h name v is has word fresh counts ready =
    let rows = (settled s.rules h).rows in
    let plain = word_is_plain v word in
    record {
      number = i;
      counts = still done (Apart name v) i refl counts;
      to = has_value_of name v s.rules h;
      goes = then_goes s (at_place i h) (waits_for i name s.rules h) _ (hyphened name ∷ []) (v ∷ [])
          (one_goes s (at_place i h) _ (hyphened name) (name_met i name s.rules h is has) (name_asked i name s h is has ready.settles))
          (one_goes s (waits_for i name s.rules h) _ v (value_met i name v s.rules h plain has) (value_asked i name v s h plain));
      ready = value_ready s done h (Apart name v) name v (built_as name Value) has.by_id.1 (option_passes_use name v s.args_override_self rows (no_row name rows fresh)) (option_used name v rows fresh) ready;
    }

-- ---- a word at a place

and_false : (b : Bool) → (b && false) ≡ false
and_false true = refl
and_false false = refl

abbrev placed_by : Shape → ℕ → Held → Text → Option Rule → Walk
placed_by s i h word a = to_positional s.rules a word (at_place i h) h

place_walked : (s : Shape) (i : ℕ) (h : Held) (word : Text) → IsPlain word → walked s.rules [] (at_place i h) word ≡ placed_by s i h word (arg_by_index s.rules i)
unfolding walked
place_walked s i h word plain = ap (λ p. after_step s.rules word (at_place i h) p.0 p.1) (plain_met s.rules idle i word h plain refl)

place_asked : (s : Shape) (i : ℕ) (h : Held) (word : Text) → IsPlain word → step_passes s i h value ≡ true → turn_passes s [] (at_place i h) word ≡ true
place_asked s i h word plain passes =
    ap (λ p. (bytes_eq word (45 ∷ 45 ∷ []) || flag_word_passes s.rules s.args_override_self (long_of word) word h) && step_passes s i p.0 p.1) (plain_met s.rules idle i word h plain refl)
    ∙ (ap (λ (t : Bool). (t || flag_word_passes s.rules s.args_override_self (long_of word) word h) && step_passes s i h value) plain.not_dashes
    ∙ (ap (λ (x : Option (Text × Option Text)). flag_word_passes s.rules s.args_override_self x word h && step_passes s i h value) plain.not_long
    ∙ (ap (λ (x : Option Text). option_map_or (λ flags. bundle_passes s.rules s.args_override_self flags h) x true && step_passes s i h value) plain.not_short ∙ passes)))

place_steps : (s : Shape) (known : List Known) (i : ℕ) (done : List Given) (h : Held) (name v : Text) (rest : List Text) → s.rules ≡ built_from 1 known → kind_of known name ≡ Some Place → is_word v ≡ true
    → places known ≡ names_in done ++ name ∷ rest → length (names_in done) < 100 → find (has_id name) (settled s.rules h).rows ≡ None → i ≡ length (names_in done) + 1 → Ready s done h
    → Steps s i h (v ∷ []) (done ++ Filled name v ∷ [])
place_steps s known i done h name v rest rules kind word at few fresh counts ready =
    let rows = (settled s.rules h).rows in
    let plain = word_is_plain v word in
    let id = id_rule s.rules known name Place rules kind in
    let found : arg_by_index s.rules i ≡ Some (built_at i name Place) =
    subst (λ (n : ℕ). arg_by_index s.rules n ≡ Some (built_at n name Place)) (sym counts) (index_rule s.rules known (names_in done) name rest rules at (omega (arith, few))) in
    let next : min (i + 1) usize_max ≡ i + 1 = omega (arith, counts, few) in
    let walks : placed_by s i h v (Some (built_at i name Place)) ≡ at_place (i + 1) (has_value_of name v s.rules h) =
    ap (λ (t : Bool). record (at_place (min (i + 1) usize_max) (pushed name v (if t then h else settled s.rules h))) { waiting = idle }) (and_false (is_pending (built_at i name Place) h.pending))
    ∙ ap (λ (n : ℕ). at_place n (has_value_of name v s.rules h)) next in
    let passes : step_passes s i h value ≡ true =
    ap (λ (a : Option Rule). option_map_or (λ a. positional_passes s.rules s.args_override_self a h) a false) found
    ∙ (ap (λ (t : Bool). t || settle_passes s.rules s.args_override_self h) (and_false (is_pending (built_at i name Place) h.pending)) ∙ ready.settles) in
    record {
      number = i + 1;
      counts = ap (λ (n : ℕ). n + 1) counts
          ∙ ap (λ (n : ℕ). n + 1) (sym (length-append (names_in done) (name ∷ [])))
          ∙ ap (λ (l : List Text). length l + 1) (sym (flat_map-append filled_in done (Filled name v ∷ [])));
      to = has_value_of name v s.rules h;
      goes = one_goes s (at_place i h) _ v (place_walked s i h v plain ∙ (ap (placed_by s i h v) found ∙ walks)) (place_asked s i h v plain passes);
      ready = value_ready s done h (Filled name v) name v (built_at id.0 name Place) id.1 (place_passes_use id.0 name v s.args_override_self rows (no_row name rows fresh)) (place_used id.0 name v rows fresh) ready;
    }

-- ---- all of them

-- the command is told of these rows
pub record Knows (s : Shape) (known : List Known) : Type 0 where
  pub rules : s.rules ≡ built_from 1 known
  pub names : AreNames known
  pub few : length (places known) < 100

-- the places that come are those that stand in the table
abbrev Comes : List Known → List Given → Given → List Text → Type 0
Comes known done g rest = places known ≡ names_in done ++ (filled_in g ++ rest)

few_before : (known : List Known) (ds : List Text) (name : Text) (rest : List Text) → places known ≡ ds ++ name ∷ rest → length (places known) < 100 → length ds < 100
few_before known ds name rest at few =
    let longer : length (places known) ≡ length ds + length (name ∷ rest) = ap length at ∙ length-append ds (name ∷ rest) in
    omega (arith, longer, few)

given_goes : (s : Shape) (known : List Known) (i : ℕ) (done : List Given) (h : Held) (g : Given) (rest : List Text) → Knows s known → is_known known g ≡ true → Fresh (name_in g) done → Comes known done g rest
    → i ≡ length (names_in done) + 1 → Ready s done h → Steps s i h (spelled g) (done ++ g ∷ [])
given_goes s known i done h (Filled name v) rest knows e none comes counts ready =
    place_steps s known i done h name v rest knows.rules (place_known (kind_of known name) (both _ _ e).0) (both _ _ e).1 comes
    (few_before known (names_in done) name rest comes knows.few) (ap (find (has_id name)) ready.rows ∙ none) counts ready
given_goes s known i done h (Alone name) rest knows e none comes counts ready =
    let has = flag_known (kind_of known name) e in
    let rows = (settled s.rules h).rows in
    let fresh = ap (find (has_id name)) ready.rows ∙ none in
    word_steps s i done h (Alone name) (hyphened name) None (built_as name Flag) [] (alone_long name (name_known known name Flag knows.names has))
    (has_rule s.rules known name Flag refl knows.rules has).by_long
    (record { met = refl; asked = refl; passes = flag_passes_use name s.args_override_self rows (no_row name rows fresh) }) (flag_used name rows fresh) refl counts ready
given_goes s known i done h (Apart name v) rest knows e none comes counts ready =
    let has = valued_known (kind_of known name) (both _ _ e).0 in
    apart_steps s i done h name v (name_known known name Value knows.names has) (has_rule s.rules known name Value refl knows.rules has) (both _ _ e).1
    (ap (find (has_id name)) ready.rows ∙ none) counts ready
given_goes s known i done h (Joined name v) rest knows e none comes counts ready =
    let has = valued_known (kind_of known name) (both _ _ e).0 in
    let rows = (settled s.rules h).rows in
    let fresh = ap (find (has_id name)) ready.rows ∙ none in
    word_steps s i done h (Joined name v) (hyphened name ++ 61 ∷ v) (Some v) (built_as name Value) (v ∷ []) (joined_long name v (name_known known name Value knows.names has))
    (has_rule s.rules known name Value refl knows.rules has).by_long
    (record { met = refl; asked = refl; passes = option_passes_use name v s.args_override_self rows (no_row name rows fresh) }) (option_used name v rows fresh) refl counts ready

-- each name has one value at most
abbrev Once : List Given → Options → Type 0
Once gs o = (name : Text) → flat_map (values_under name) gs ≡ option_to_list (o name)

none_before : (xs : List Text) (y : Option Text) (v : Text) (rest : List Text) → xs ++ v ∷ rest ≡ option_to_list y → xs ≡ []
none_before [] y v rest e = refl
none_before (x ∷ []) (Some w) v rest e = absurd (let h : x ∷ v ∷ rest ≡ w ∷ [] = e in cc)
none_before (x ∷ []) None v rest e = absurd (let h : x ∷ v ∷ rest ≡ [] = e in cc)
none_before (x ∷ z ∷ xs) (Some w) v rest e = absurd (let h : x ∷ z ∷ xs ++ v ∷ rest ≡ w ∷ [] = e in cc)
none_before (x ∷ z ∷ xs) None v rest e = absurd (let h : x ∷ z ∷ xs ++ v ∷ rest ≡ [] = e in cc)

first_given : (done gs : List Given) (g : Given) (o : Options) → Once (done ++ g ∷ gs) o → Fresh (name_in g) done
first_given done gs g o once =
    let n = name_in g in
    let here : flat_map (values_under n) done ++ (value_in g ∷ flat_map (values_under n) gs) ≡ option_to_list (o n) =
    ap (λ (b : Bool). flat_map (values_under n) done ++ ((if b then value_in g ∷ [] else []) ++ flat_map (values_under n) gs)) (sym (itself n))
    ∙ (sym (flat_map-append (values_under n) done (g ∷ gs)) ∙ once n) in
    unkept done n (none_before (flat_map (values_under n) done) (o n) (value_in g) (flat_map (values_under n) gs) here)

pub given_steps : (s : Shape) (known : List Known) (i : ℕ) (done gs : List Given) (o : Options) (h : Held) → Knows s known → list_all (is_known known) gs ≡ true → Once (done ++ gs) o
    → places known ≡ names_in done ++ names_in gs → i ≡ length (names_in done) + 1 → Ready s done h → Steps s i h (flat_map spelled gs) (done ++ gs)
given_steps s known i done [] o h knows all once at counts ready = record {
  number = i;
  counts = subst (λ (l : List Given). i ≡ length (names_in l) + 1) (sym (append-nil done)) counts;
  to = h;
  goes = record { walks = λ rest. refl; passes = λ rest p. p };
  ready = subst (λ (l : List Given). Ready s l h) (sym (append-nil done)) ready;
}
given_steps s known i done (g ∷ gs) o h knows all once at counts ready =
    let first = given_goes s known i done h g (names_in gs) knows (both _ _ all).0 (first_given done gs g o once) at counts ready in
    let same = append_assoc done (g ∷ []) gs in
    let joins : places known ≡ names_in (done ++ g ∷ []) ++ names_in gs =
    at ∙ (sym (flat_map-append filled_in done (g ∷ gs)) ∙ (ap names_in (sym same) ∙ flat_map-append filled_in (done ++ g ∷ []) gs)) in
    let rest = given_steps s known first.number (done ++ g ∷ []) gs o first.to knows (both _ _ all).1 (subst (λ (l : List Given). Once l o) (sym same) once) joins first.counts first.ready in
    record {
      number = rest.number;
      counts = subst (λ (l : List Given). rest.number ≡ length (names_in l) + 1) same rest.counts;
      to = rest.to;
      goes = then_goes s (at_place i h) (at_place first.number first.to) (at_place rest.number rest.to) (spelled g) (flat_map spelled gs) first.goes rest.goes;
      ready = subst (λ (l : List Given). Ready s l rest.to) same rest.ready;
    }

-- The scan of words finds what they give.
use Rattle.std.proofs.Common.{◌≡◌, ◌<◌, ◌⊎◌, ◌+◌, ◌==◌, ◌&&◌, ℕ, List, [], ◌∷◌, ◌++◌, Bool, true, false, not, Option, Some, None, is_some, if◌then◌else◌, cond, refl, sym, ap, ◌∙◌, subst, inl, inr, true≢false}
use Rattle.std.proofs.Common.{length, take, drop, get_or, position, flat_map, option_map, option_to_list, bytes_eq, arith, append_assoc, append-nil}
use Rattle.std.specs.Bool.{⊤}
use Rattle.std.specs.List.{find, list_all, position_or_len}
use Rattle.std.specs.Borrow.{Bor}
use Rattle.std.specs.Option.{MatchOption}
use Rattle.std.specs.Prelude.{nat_le, option_and_then}
use Rattle.std.specs.Str.Pattern.{FindsTextPrefix, StripsPrefix}
use Rattle.std.proofs.lemmas.Grind.{common_steps}
use Rattle.std.proofs.lemmas.List.Quantifiers.{position-Some}
use Rattle.std.proofs.lemmas.Slice.Eq.{bytes_eq-Decides}
use Rattle.clap.specs.Lexer.{strip_byte}
use Rattle.clap.proofs.WalkLemmas.{both}
use Rattle.cy_args.specs.Options.{Alone, Apart, AreOptions, Flag, Given, Joined, Kind, Known, Options, Place, Filled, Value, filled_in, hyphened, is_filled, is_flag, is_known, is_place, is_valued, kind_of, name_in, places, spelled, value_in, values_under}
use Rattle.cy_args.specs.FilterWords.{◌>>=◌}
use Rattle.cy_args.specs.private.Scan.{Reading, behind_hyphens, given_met, is_full, name_met, no_options, option_met, read_options, options_read, parts_met, place_met, put, put_once, rest_met, settled, read_words}
use Rattle.cy_args.specs.Words.{is_word, longest_word}

-- ---- steps that succeed

pub nothing : {A : Type 0} (a : A) → None ≡ Some a → ⊥
nothing a e = cc

pub bound : {A B : Type 0} (x : Option A) (f : A → Option B) (b : B) → (x >>= f) ≡ Some b → (a : A) × (x ≡ Some a) × (f a ≡ Some b)
bound None f b e = absurd (nothing b e)
bound (Some a) f b e = (a, refl, e)

pub some_same : {A : Type 0} (a b : A) → Some a ≡ Some b → a ≡ b
some_same a b e = cc

pub mapped : {A B : Type 0} (x : Option A) (f : A → B) (b : B) → option_map f x ≡ Some b → (a : A) × (x ≡ Some a) × (f a ≡ b)
mapped None f b e = absurd (nothing b e)
mapped (Some a) f b e = (a, refl, some_same (f a) b e)

pub same_name : (a b : List ℕ) → bytes_eq a b ≡ true → a ≡ b
same_name a b e = (bytes_eq-Decides a b).0 e

pub itself : (a : List ℕ) → bytes_eq a a ≡ true
itself a = (bytes_eq-Decides a a).1 refl

pub guarded : {A : Type 0} (t : Bool) (x : Option A) (a : A) → (if t then x else None) ≡ Some a → (t ≡ true) × (x ≡ Some a)
guarded true x a e = (refl, e)
guarded false x a e = absurd (nothing a e)

pub unguarded : {A : Type 0} (t : Bool) (x : Option A) (a : A) → (if t then None else x) ≡ Some a → (t ≡ false) × (x ≡ Some a)
unguarded true x a e = absurd (nothing a e)
unguarded false x a e = (refl, e)

pub none_of : {A : Type 0} (x : Option A) → is_some x ≡ false → x ≡ None
none_of None e = refl
none_of (Some v) e = absurd (true≢false e)

-- ---- what a command knows

pub place_known : (has : Option Kind) → is_place has ≡ true → has ≡ Some Place
place_known None e = absurd (true≢false (sym e))
place_known (Some Place) e = refl
place_known (Some Value) e = absurd (true≢false (sym e))
place_known (Some Flag) e = absurd (true≢false (sym e))

pub valued_known : (has : Option Kind) → is_valued has ≡ true → has ≡ Some Value
valued_known None e = absurd (true≢false (sym e))
valued_known (Some Place) e = absurd (true≢false (sym e))
valued_known (Some Value) e = refl
valued_known (Some Flag) e = absurd (true≢false (sym e))

pub flag_known : (has : Option Kind) → is_flag has ≡ true → has ≡ Some Flag
flag_known None e = absurd (true≢false (sym e))
flag_known (Some Place) e = absurd (true≢false (sym e))
flag_known (Some Value) e = absurd (true≢false (sym e))
flag_known (Some Flag) e = refl

abbrev pub no_equals : List ℕ → Bool
no_equals xs = list_all (λ b. not (b == 61)) xs

-- a name isn't empty, and has no `=`
abbrev pub is_name : List ℕ → Bool
is_name [] = false
is_name (b ∷ rest) = no_equals (b ∷ rest)

abbrev pub AreNames : List Known → Type 0
AreNames known = list_all (λ k. is_name k.name) known ≡ true

pub name_known : (known : List Known) (name : List ℕ) (kind : Kind) → AreNames known → kind_of known name ≡ Some kind → is_name name ≡ true
name_known [] name kind names e = absurd (nothing kind e)
name_known (k ∷ known) name kind names e = by (bytes_eq k.name name) refl (name_known known name kind (both _ _ names).1) e
  where
    by : (t : Bool) → bytes_eq k.name name ≡ t → (kind_of known name ≡ Some kind → is_name name ≡ true)
        → option_map (λ (k : Known). k.kind) (cond t (Some k) (find (λ (k : Known). bytes_eq k.name name) known)) ≡ Some kind → is_name name ≡ true
    by true same rest e = subst (λ (n : List ℕ). is_name n ≡ true) (same_name k.name name same) (both _ _ names).0
    by false other rest e = rest e

pub no_equals_in : (name : List ℕ) → is_name name ≡ true → no_equals name ≡ true
no_equals_in [] e = refl
no_equals_in (b ∷ rest) e = e

-- ---- words and what they give

abbrev pub start : List Known → Options → Reading
start left o = record { options = o; pending = None; left = left }

abbrev waits : List ℕ → List Known → Options → Reading
waits name left o = record { options = o; pending = Some name; left = left }

abbrev pub after : List Known → List Given → Options → Option Options
after known [] o = Some o
after known (g ∷ gs) o = given_met known g o >>= after known gs

pub first_equals : (xs v : List ℕ) → no_equals xs ≡ true → position_or_len (λ b. b == 61) (xs ++ 61 ∷ v) ≡ length xs
first_equals [] v e = refl
first_equals (x ∷ xs) v e = grind (arith, common_steps, first_equals xs v)

pub equals_ends : (xs : List ℕ) → no_equals xs ≡ true → position_or_len (λ b. b == 61) xs ≡ length xs
equals_ends [] e = refl
equals_ends (x ∷ xs) e = grind (arith, common_steps, equals_ends xs)

at_equals : (xs v : List ℕ) → no_equals xs ≡ true → position (λ b. b == 61) (xs ++ 61 ∷ v) ≡ Some (length xs)
at_equals xs v e = grind (arith, common_steps, first_equals xs v e)

at_no_equals : (xs : List ℕ) → no_equals xs ≡ true → position (λ b. b == 61) xs ≡ None
at_no_equals xs e = grind (arith, common_steps, equals_ends xs e)

pub before_equals : (xs v : List ℕ) → take (length xs) (xs ++ 61 ∷ v) ≡ xs
before_equals xs v = grind (arith, common_steps)

pub behind_equals : (xs v : List ℕ) → drop (length xs + 1) (xs ++ 61 ∷ v) ≡ v
behind_equals [] v = grind (arith, common_steps)
behind_equals (x ∷ xs) v = grind (arith, common_steps, behind_equals xs v)

-- a name alone, and a name with its value in one word
alone_met : (known : List Known) (name : List ℕ) (left : List Known) (o : Options) (b : Bool) → is_full left ≡ true → no_equals name ≡ true → is_valued (kind_of known name) ≡ b
    → option_met known (hyphened name) left o ≡ (if b then Some (waits name left o) else settled left (given_met known (Alone name) o))
unfolding option_met name_met
alone_met known name left o b full plain has =
    ap (λ (t : Bool). if t then parts_met known name (position (λ b. b == 61) name) left o else None) full
    ∙ (ap (λ (x : Option ℕ). parts_met known name x left o) (at_no_equals name plain)
    ∙ ap (λ (x : Bool). if x then Some (waits name left o) else settled left (given_met known (Alone name) o)) has)

joined_met : (known : List Known) (name v : List ℕ) (left : List Known) (o : Options) → is_full left ≡ true → no_equals name ≡ true
    → option_met known (hyphened name ++ 61 ∷ v) left o ≡ settled left (given_met known (Joined name v) o)
unfolding option_met
joined_met known name v left o full plain =
    ap (λ (t : Bool). if t then parts_met known (name ++ 61 ∷ v) (position (λ b. b == 61) (name ++ 61 ∷ v)) left o else None) full
    ∙ (ap (λ (x : Option ℕ). parts_met known (name ++ 61 ∷ v) x left o) (at_equals name v plain)
    ∙ (λ i. settled left (given_met known (Joined (before_equals name v i) (behind_equals name v i)) o)))

-- a word that may stand as a name is no option
no_hyphens : (word : List ℕ) → is_word word ≡ true → behind_hyphens word ≡ None
no_hyphens [] e = refl
no_hyphens (b ∷ rest) e = by (b == 45) refl e
  where
    by : (t : Bool) → (b == 45) ≡ t → is_word (b ∷ rest) ≡ true → behind_hyphens (b ∷ rest) ≡ None
    by true is e = absurd (true≢false (sym e ∙ ap (λ (x : Bool). not x && nat_le (length (b ∷ rest)) longest_word) is))
    by false is e = ap (λ (x : Bool). option_and_then (strip_byte 45) (if x then Some rest else None)) is

placed_met : (known : List Known) (k : Known) (v : List ℕ) (left : List Known) (o : Options) → is_place (Some k.kind) ≡ true → is_word v ≡ true
    → option_met known v (k ∷ left) o ≡ settled left (given_met known (Filled k.name v) o)
unfolding option_met place_met
placed_met known k v left o is word =
    ap (λ (x : Option (List ℕ)). rest_met known v x (k ∷ left) o) (no_hyphens v word)
    ∙ ap (λ (t : Bool). if t then settled left (given_met known (Filled k.name v) o) else None) is

-- the rows from a place on
pub record Next (left : List Known) (name : List ℕ) (names : List (List ℕ)) : Type 0 where
  pub row : Known
  pub rest : List Known
  pub is : left ≡ row ∷ rest
  pub is_place_row : is_place (Some row.kind) ≡ true
  pub named : row.name ≡ name
  pub others : names ≡ places rest

pub next_place : (left : List Known) (name : List ℕ) (names : List (List ℕ)) → name ∷ names ≡ places left → Next left name names
next_place [] name names e = absurd (let h : name ∷ names ≡ [] = e in cc)
next_place (k ∷ left) name names e = by (is_place (Some k.kind)) refl e
  where
    by : (t : Bool) → is_place (Some k.kind) ≡ t → name ∷ names ≡ (if t then k.name ∷ places left else []) → Next (k ∷ left) name names
    by true is e = let h : name ∷ names ≡ k.name ∷ places left = e in record { row = k; rest = left; is = refl; is_place_row = is; named = cc; others = cc }
    by false is e = absurd (let h : name ∷ names ≡ [] = e in cc)

full : (left : List Known) → [] ≡ places left → is_full left ≡ true
full [] e = refl
full (k ∷ left) e = by (is_place (Some k.kind)) refl e
  where
    by : (t : Bool) → is_place (Some k.kind) ≡ t → [] ≡ (if t then k.name ∷ places left else []) → is_full (k ∷ left) ≡ true
    by true is e = absurd (let h : [] ≡ k.name ∷ places left = e in cc)
    by false is e = ap not is

-- as many as there are places stand first at these
abbrev pub FillFirst : List (List ℕ) → List Given → Type 0
FillFirst names gs = list_all is_filled (take (length names) gs) ≡ true

-- where an option stands first there is no place
no_places : (names : List (List ℕ)) (g : Given) (gs : List Given) → is_filled g ≡ false → FillFirst names (g ∷ gs) → [] ≡ names
no_places [] g gs option first = refl
no_places (name ∷ names) g gs option first = absurd (true≢false (sym first ∙ ap (λ (t : Bool). t && list_all is_filled (take (length names) gs)) option))

behind_all : (left : List Known) (gs : List Given) → [] ≡ places left → FillFirst (places left) gs
behind_all left gs none = ap (λ (names : List (List ℕ)). list_all is_filled (take (length names) gs)) (sym none)

settle_then : (known : List Known) (x : Option Options) (gs : List Given) (left : List Known) (rest : List (List ℕ))
    → ((o : Options) → (read_words known rest (start left o) >>= options_read) ≡ after known gs o)
    → ((settled left x >>= read_words known rest) >>= options_read) ≡ (x >>= after known gs)
settle_then known None gs left rest h = refl
settle_then known (Some o) gs left rest h = h o

abbrev read_on : List Known → List (List ℕ) → Option Reading → Option Options
read_on known rest x = (x >>= read_words known rest) >>= options_read

read_given : (known : List Known) → AreNames known → (gs : List Given) → list_all (is_known known) gs ≡ true → (left : List Known) → flat_map filled_in gs ≡ places left → FillFirst (places left) gs → (o : Options)
    → (read_words known (flat_map spelled gs) (start left o) >>= options_read) ≡ after known gs o
read_given known names [] all left filled first o = ap (λ (t : Bool). if t then Some o else None) (full left filled)
read_given known names (Filled name v ∷ gs) all left filled first o =
    let n = next_place left name (flat_map filled_in gs) filled in
    let behind : FillFirst (places n.rest) gs =
    ap (λ (names : List (List ℕ)). list_all is_filled (take (length names) gs)) (sym n.others)
    ∙ (ap (λ (names : List (List ℕ)). list_all is_filled (take (length names) (Filled name v ∷ gs))) filled ∙ first) in
    let word = (both _ _ (both _ _ all).0).1 in
    ap (λ (l : List Known). read_on known (flat_map spelled gs) (option_met known v l o)) n.is
    ∙ (ap (read_on known (flat_map spelled gs)) (placed_met known n.row v n.rest o n.is_place_row word)
    ∙ (settle_then known (given_met known (Filled n.row.name v) o) gs n.rest (flat_map spelled gs) (read_given known names gs (both _ _ all).1 n.rest n.others behind)
    ∙ ap (λ (x : List ℕ). given_met known (Filled x v) o >>= after known gs) n.named))
read_given known names (Alone name ∷ gs) all left filled first o =
    let has = flag_known (kind_of known name) (both _ _ all).0 in
    let none = no_places (places left) (Alone name) gs refl first in
    ap (read_on known (flat_map spelled gs)) (alone_met known name left o false (full left none) (no_equals_in name (name_known known name Flag names has)) (ap is_valued has))
    ∙ settle_then known (given_met known (Alone name) o) gs left (flat_map spelled gs) (read_given known names gs (both _ _ all).1 left filled (behind_all left gs none))
read_given known names (Apart name v ∷ gs) all left filled first o =
    let has = valued_known (kind_of known name) (both _ _ (both _ _ all).0).0 in
    let none = no_places (places left) (Apart name v) gs refl first in
    ap (read_on known (v ∷ flat_map spelled gs)) (alone_met known name left o true (full left none) (no_equals_in name (name_known known name Value names has)) (ap is_valued has))
    ∙ settle_then known (given_met known (Apart name v) o) gs left (flat_map spelled gs) (read_given known names gs (both _ _ all).1 left filled (behind_all left gs none))
read_given known names (Joined name v ∷ gs) all left filled first o =
    let has = valued_known (kind_of known name) (both _ _ (both _ _ all).0).0 in
    let none = no_places (places left) (Joined name v) gs refl first in
    ap (read_on known (flat_map spelled gs)) (joined_met known name v left o (full left none) (no_equals_in name (name_known known name Value names has)))
    ∙ settle_then known (given_met known (Joined name v) o) gs left (flat_map spelled gs) (read_given known names gs (both _ _ all).1 left filled (behind_all left gs none))

-- ---- and back

none_left : (left : List Known) → is_full left ≡ true → [] ≡ places left
none_left [] e = refl
none_left (k ∷ left) e = by (is_place (Some k.kind)) e
  where
    by : (t : Bool) → not t ≡ true → [] ≡ (if t then k.name ∷ places left else [])
    by true e = absurd (true≢false (sym e))
    by false e = refl

pub record Spelled (known : List Known) (words : List (List ℕ)) (left : List Known) (o found : Options) : Type 0 where
  pub given : List Given
  pub spells : words ≡ flat_map spelled given
  pub filled : flat_map filled_in given ≡ places left
  pub first : FillFirst (places left) given
  pub gives : after known given o ≡ Some found

-- one more stands in front of what fills these places
abbrev Leads : List Known → Given → List Known → Type 0
Leads left g next = (gs : List Given) → FillFirst (places next) gs → FillFirst (places left) (g ∷ gs)

option_leads : (left : List Known) (g : Given) → is_full left ≡ true → Leads left g left
option_leads left g full gs first = behind_all left (g ∷ gs) (none_left left full)

place_leads : (k : Known) (left : List Known) (v : List ℕ) → is_place (Some k.kind) ≡ true → Leads (k ∷ left) (Filled k.name v) left
place_leads k left v is gs first = ap (λ (t : Bool). list_all is_filled (take (length (if t then k.name ∷ places left else [])) (Filled k.name v ∷ gs))) is ∙ first

more : (known : List Known) (g : Given) (words rest : List (List ℕ)) (left next : List Known) (o made found : Options) → words ≡ spelled g ++ rest → places left ≡ filled_in g ++ places next
    → Leads left g next → given_met known g o ≡ Some made → Spelled known rest next made found → Spelled known words left o found
more known g words rest left next o made found is fills leads step s = record {
  given = g ∷ s.given;
  spells = is ∙ ap (λ (l : List (List ℕ)). spelled g ++ l) s.spells;
  filled = ap (λ (l : List (List ℕ)). filled_in g ++ l) s.filled ∙ sym fills;
  first = leads s.given s.first;
  gives = ap (λ (x : Option Options). x >>= after known s.given) step ∙ s.gives;
}

-- what a word is that is no value of an option: all that is given, or a name whose value is the next word
pub record IsOne (known : List Known) (word : List ℕ) (left : List Known) (o : Options) (r : Reading) : Type 0 where
  pub given : Given
  pub made : Options
  pub next : List Known
  pub spells : word ∷ [] ≡ spelled given
  pub fills : places left ≡ filled_in given ++ places next
  pub leads : Leads left given next
  pub gives : given_met known given o ≡ Some made
  pub goes : start next made ≡ r

pub record IsName (word : List ℕ) (left : List Known) (o : Options) (r : Reading) : Type 0 where
  pub name : List ℕ
  pub spells : word ≡ hyphened name
  pub behind : is_full left ≡ true
  pub goes : waits name left o ≡ r

abbrev Met : List Known → List ℕ → List Known → Options → Reading → Type 0
Met known word left o r = IsOne known word left o r ⊎ IsName word left o r

split_equals : (word : List ℕ) (i : ℕ) → position (λ b. b == 61) word ≡ Some i → word ≡ take i word ++ 61 ∷ drop (i + 1) word
split_equals word i e =
    let at = position-Some (λ b. b == 61) word i 0 e in
    let is : get_or word i 0 ≡ 61 = grind (arith, common_steps, at.1) in
    let within : i < length word = at.0 in
    grind (arith, common_steps)

-- one thing that is given, and leaves these rows
one_met : (known : List Known) (g : Given) (word : List ℕ) (left next : List Known) (o : Options) (r : Reading) → word ∷ [] ≡ spelled g → places left ≡ filled_in g ++ places next
    → Leads left g next → settled next (given_met known g o) ≡ Some r → Met known word left o r
one_met known g word left next o r is fills leads e =
    let m = mapped (given_met known g o) (start next) r e in
    inl record { given = g; made = m.0; next = next; spells = is; fills = fills; leads = leads; gives = m.1; goes = m.2 }

named : (known : List Known) (name : List ℕ) (left : List Known) (o : Options) (r : Reading) → is_full left ≡ true → name_met known name left o ≡ Some r → Met known (hyphened name) left o r
unfolding name_met
named known name left o r behind e = by (is_valued (kind_of known name)) e
  where
    by : (t : Bool) → (if t then Some (waits name left o) else settled left (given_met known (Alone name) o)) ≡ Some r → Met known (hyphened name) left o r
    by true e = inr record { name = name; spells = refl; behind = behind; goes = some_same (waits name left o) r e }
    by false e = one_met known (Alone name) (hyphened name) left left o r refl refl (option_leads left (Alone name) behind) e

parted : (known : List Known) (rest : List ℕ) (left : List Known) (o : Options) (r : Reading) (at : Option ℕ) → is_full left ≡ true → position (λ b. b == 61) rest ≡ at → parts_met known rest at left o ≡ Some r
    → Met known (hyphened rest) left o r
parted known rest left o r None behind is e = named known rest left o r behind e
parted known rest left o r (Some i) behind is e =
    let g = Joined (take i rest) (drop (i + 1) rest) in
    one_met known g (hyphened rest) left left o r (ap (λ (w : List ℕ). hyphened w ∷ []) (split_equals rest i is)) refl (option_leads left g behind) e

filled : (known : List Known) (word : List ℕ) (left : List Known) (o : Options) (r : Reading) → place_met known word left o ≡ Some r → Met known word left o r
unfolding place_met
filled known word [] o r e = absurd (nothing r e)
filled known word (k ∷ left) o r e =
    let g = guarded (is_place (Some k.kind)) (settled left (given_met known (Filled k.name word) o)) r e in
    one_met known (Filled k.name word) word (k ∷ left) left o r refl (ap (λ (t : Bool). if t then k.name ∷ places left else []) g.0) (place_leads k left word g.0) g.1

stripped : (word rest : List ℕ) → strip_byte 45 word ≡ Some rest → word ≡ 45 ∷ rest
stripped [] rest e = absurd (nothing rest e)
stripped (x ∷ xs) rest e =
    let g = guarded (x == 45) (Some xs) rest e in
    let first : x ≡ 45 = grind (arith, common_steps, g.0) in
    (λ i. first i ∷ some_same xs rest g.1 i)

hyphens_stripped : (word : List ℕ) (once : Option (List ℕ)) (rest : List ℕ) → strip_byte 45 word ≡ once → option_and_then (strip_byte 45) once ≡ Some rest → word ≡ hyphened rest
hyphens_stripped word None rest is e = absurd (nothing rest e)
hyphens_stripped word (Some one) rest is e = stripped word one is ∙ ap (λ (l : List ℕ). 45 ∷ l) (stripped one rest e)

-- what `strip_prefix` says of two hyphens
abbrev pub IsBehind : List ℕ → Option (Bor (List ℕ)) → Type 0
IsBehind word r = MatchOption r (FindsTextPrefix (45 ∷ 45 ∷ []) word None) (λ x. StripsPrefix (FindsTextPrefix (45 ∷ 45 ∷ [])) word x.now)

pub is_behind : (word : List ℕ) (r : Option (Bor (List ℕ))) → IsBehind word r → option_map (λ (rest : Bor (List ℕ)). rest.now) r ≡ behind_hyphens word
is_behind word None lacks = by (behind_hyphens word) refl
  where
    by : (x : Option (List ℕ)) → behind_hyphens word ≡ x → None ≡ behind_hyphens word
    by None is = sym is
    by (Some rest) is = absurd (lacks rest (hyphens_stripped word (strip_byte 45 word) rest refl is))
is_behind word (Some x) strips =
    let front : word ≡ hyphened x.now = strips.1.1 ∙ ap hyphened (sym strips.2) in
    sym (ap behind_hyphens front)

met_is : (known : List Known) (word : List ℕ) (left : List Known) (o : Options) (r : Reading) → option_met known word left o ≡ Some r → Met known word left o r
unfolding option_met
met_is known word left o r e = by (behind_hyphens word) refl e
  where
    by : (x : Option (List ℕ)) → behind_hyphens word ≡ x → rest_met known word x left o ≡ Some r → Met known word left o r
    by None is e = filled known word left o r e
    by (Some rest) is e =
        let g = guarded (is_full left) (parts_met known rest (position (λ b. b == 61) rest) left o) r e in
        subst (λ (w : List ℕ). Met known w left o r) (sym (hyphens_stripped word (strip_byte 45 word) rest refl is)) (parted known rest left o r (position (λ b. b == 61) rest) g.0 refl g.1)

abbrev before : Option (List ℕ) → List (List ℕ) → List (List ℕ)
before None words = words
before (Some name) words = hyphened name ∷ words

-- a name waits for its value behind all places
abbrev Waits : Option (List ℕ) → List Known → Type 0
Waits None left = ⊤
Waits (Some name) left = is_full left ≡ true

-- two steps, of which the first one succeeds
bound_first : {A B C : Type 0} (x : Option A) (f : A → Option B) (g : B → Option C) (c : C) → ((x >>= f) >>= g) ≡ Some c → (a : A) × (x ≡ Some a) × ((f a >>= g) ≡ Some c)
bound_first None f g c e = absurd (nothing c e)
bound_first (Some a) f g c e = (a, refl, e)

given_read : (known : List Known) (words : List (List ℕ)) (left : List Known) (o found : Options) (pending : Option (List ℕ)) → Waits pending left
    → (read_words known words (record { options = o; pending = pending; left = left }) >>= options_read) ≡ Some found → Spelled known (before pending words) left o found
given_read known [] left o found None waits e =
    let g = guarded (is_full left) (Some o) found e in
    record { given = []; spells = refl; filled = none_left left g.0; first = behind_all left [] (none_left left g.0); gives = g.1 }
given_read known [] left o found (Some name) waits e = absurd (nothing found e)
given_read known (word ∷ rest) left o found None waits e =
    let b = bound_first (option_met known word left o) (read_words known rest) options_read found e in
    elim (met_is known word left o b.0 b.1) [
      | inl m ↦ more known m.given (word ∷ rest) rest left m.next o m.made found (ap (λ (w : List (List ℕ)). w ++ rest) m.spells) m.fills m.leads m.gives
          (given_read known rest m.next m.made found None tt (ap (λ (r : Reading). read_words known rest r >>= options_read) m.goes ∙ b.2))
      | inr w ↦ subst (λ (x : List ℕ). Spelled known (x ∷ rest) left o found) (sym w.spells)
          (given_read known rest left o found (Some w.name) w.behind (ap (λ (r : Reading). read_words known rest r >>= options_read) w.goes ∙ b.2))
    ]
given_read known (value ∷ rest) left o found (Some name) waits e =
    let b = bound_first (settled left (given_met known (Apart name value) o)) (read_words known rest) options_read found e in
    let m = mapped (given_met known (Apart name value) o) (start left) b.0 b.1 in
    more known (Apart name value) (hyphened name ∷ value ∷ rest) rest left left o m.0 found refl refl (option_leads left (Apart name value) waits) m.1
    (given_read known rest left m.0 found None tt (ap (λ (r : Reading). read_words known rest r >>= options_read) m.2 ∙ b.2))

-- ---- options one after another, and all that are given

pub given_found : (known : List Known) (g : Given) (o next : Options) → given_met known g o ≡ Some next
    → (is_known known g ≡ true) × (o (name_in g) ≡ None) × (next ≡ put (name_in g) (value_in g) o)
unfolding given_met put_once
given_found known g o next e =
    let k = guarded (is_known known g) (put_once (name_in g) (value_in g) o) next e in
    let f = unguarded (is_some (o (name_in g))) (Some (put (name_in g) (value_in g) o)) next k.1 in
    (k.0, none_of (o (name_in g)) f.0, sym (some_same (put (name_in g) (value_in g) o) next f.1))

is_met : (known : List Known) (g : Given) (o : Options) → is_known known g ≡ true → o (name_in g) ≡ None → given_met known g o ≡ Some (put (name_in g) (value_in g) o)
unfolding given_met put_once
is_met known g o is none =
    ap (λ (t : Bool). if t then put_once (name_in g) (value_in g) o else None) is ∙ ap (λ (x : Option (List ℕ)). if is_some x then None else Some (put (name_in g) (value_in g) o)) none

abbrev Continues : List Given → Options → Options → Type 0
Continues gs o found = (name : List ℕ) → option_to_list (o name) ++ flat_map (values_under name) gs ≡ option_to_list (found name)

grown : (b : Bool) (x : Option (List ℕ)) (v : List ℕ) → (b ≡ true → x ≡ None) → option_to_list x ++ (if b then v ∷ [] else []) ≡ option_to_list (if b then Some v else x)
grown true x v none = ap (λ (y : Option (List ℕ)). option_to_list y ++ v ∷ []) (none refl)
grown false x v none = append-nil (option_to_list x)

-- one value more under a name that had none
shifted : (g : Given) (o : Options) (rest : List (List ℕ)) (name : List ℕ) → o (name_in g) ≡ None
    → option_to_list (o name) ++ (values_under name g ++ rest) ≡ option_to_list (put (name_in g) (value_in g) o name) ++ rest
shifted g o rest name none =
    sym (append_assoc (option_to_list (o name)) (values_under name g) rest)
    ∙ ap (λ (l : List (List ℕ)). l ++ rest) (grown (bytes_eq (name_in g) name) (o name) (value_in g) (λ same. ap o (sym (same_name (name_in g) name same)) ∙ none))

run : (known : List Known) (gs : List Given) (o found : Options) → after known gs o ≡ Some found → (list_all (is_known known) gs ≡ true) × Continues gs o found
run known [] o found e = (refl, λ name. append-nil (option_to_list (o name)) ∙ ap (λ (x : Options). option_to_list (x name)) (some_same o found e))
run known (g ∷ gs) o found e =
    let b = bound (given_met known g o) (after known gs) found e in
    let f = given_found known g o b.0 b.1 in
    let go = run known gs b.0 found b.2 in (
      ap (λ (t : Bool). t && list_all (is_known known) gs) f.0 ∙ go.0,
      λ name. shifted g o (flat_map (values_under name) gs) name f.1 ∙ (ap (λ (x : Options). option_to_list (x name) ++ flat_map (values_under name) gs) (sym f.2) ∙ go.1 name),
    )

pub one_value : (x y : Option (List ℕ)) (v : List ℕ) (rest : List (List ℕ)) → option_to_list x ++ v ∷ rest ≡ option_to_list y → x ≡ None
one_value None y v rest e = refl
one_value (Some u) (Some w) v rest e = absurd (let h : u ∷ v ∷ rest ≡ w ∷ [] = e in cc)
one_value (Some u) None v rest e = absurd (let h : u ∷ v ∷ rest ≡ [] = e in cc)

same_value : (x y : Option (List ℕ)) → option_to_list x ++ [] ≡ option_to_list y → x ≡ y
same_value None None e = refl
same_value (Some u) (Some w) e = ap Some (let h : u ∷ [] ≡ w ∷ [] = e in cc)
same_value None (Some w) e = absurd (let h : [] ≡ w ∷ [] = e in cc)
same_value (Some u) None e = absurd (let h : u ∷ [] ≡ [] = e in cc)

reached : (known : List Known) (gs : List Given) (o found : Options) → list_all (is_known known) gs ≡ true → Continues gs o found → after known gs o ≡ Some found
reached known [] o found all c = ap Some (λ i name. same_value (o name) (found name) (c name) i)
reached known (g ∷ gs) o found all c =
    let n = name_in g in
    let here : option_to_list (o n) ++ (value_in g ∷ flat_map (values_under n) gs) ≡ option_to_list (found n) =
    ap (λ (b : Bool). option_to_list (o n) ++ ((if b then value_in g ∷ [] else []) ++ flat_map (values_under n) gs)) (sym (itself n)) ∙ c n in
    let none = one_value (o n) (found n) (value_in g) (flat_map (values_under n) gs) here in
    ap (λ (x : Option Options). x >>= after known gs) (is_met known g o (both _ _ all).0 none)
    ∙ reached known gs (put n (value_in g) o) found (both _ _ all).1 (λ name. sym (shifted g o (flat_map (values_under name) gs) name none) ∙ c name)

-- ---- both ways

pub options_found : (known : List Known) → AreNames known → (words : List (List ℕ)) (o : Options) → AreOptions known words o → read_options known words ≡ Some o
options_found known names words o p =
    ap (λ (l : List (List ℕ)). read_words known l (start known no_options) >>= options_read) p.are_spelled
    ∙ (read_given known names p.given p.are_known known p.are_placed p.stand_first no_options ∙ reached known p.given no_options o p.are_known p.values)

pub options_are : (known : List Known) (words : List (List ℕ)) (o : Options) → read_options known words ≡ Some o → AreOptions known words o
options_are known words o e =
    let s = given_read known words known no_options o None tt e in
    let r = run known s.given no_options o s.gives in
    record { given = s.given; are_known = r.0; are_spelled = s.spells; are_placed = s.filled; stand_first = s.first; values = r.1 }

-- Bodies that are kept one behind another.
use Rattle.std.proofs.Common.{◌≡◌, ◌<◌, ◌≤◌, ℕ, zero, suc, List, [], ◌∷◌, ◌++◌, length, refl, ap, sym, subst, ◌∙◌, All, arith, Option, Some, None, Result, Ok, Err}
use Rattle.std.specs.Prelude.{map, slice_index_or}
use Rattle.std.proofs.lemmas.List.Elements.{All-nil, All-cons, All-head, All-tail}
use Rattle.cy_wire.specs.Field.{fields_of}
use Rattle.cy_section.specs.Reading.{messages_of}
use Rattle.cy_section.specs.declared.types.SectionKind.TheVariants as kind
use Rattle.cy_section.specs.declared.error.SectionError.{SectionError}
use Rattle.cy_reader.specs.declared.error.LoadError.{LoadError}
use Rattle.cy_reader.specs.declared.loading.Loading.{Loading}
use Rattle.cy_reader.specs.declared.loading.Message.{Message}
use Rattle.cy_reader.specs.Record.{◌>>=◌, Met, fault_of, add_body, add_section, add_sections}
use Rattle.cy_cut.specs.Sections.{WholeSection}
use Rattle.cy_reader.specs.private.Loading.{IsSound, Leads, message_of, met_of}
use Rattle.cy_cut.specs.declared.cutting.Part.{Part}
use Rattle.cy_cut.specs.Cutting.{seen_part}

-- a body behind others changes none of them
index_before : (bodies : List (List ℕ)) (b : List ℕ) (i : ℕ) → i < length bodies → slice_index_or (bodies ++ b ∷ []) i [] ≡ slice_index_or bodies i []
index_before [] b i few = absurd (omega arith)
index_before (x ∷ bodies) b zero few = refl
index_before (x ∷ bodies) b (suc i) few = index_before bodies b i (omega arith)

one_behind : (bodies : List (List ℕ)) (b : List ℕ) (m : Message) → m.body < length bodies → message_of (bodies ++ b ∷ []) m ≡ message_of bodies m
one_behind bodies b m few = rw (index_before bodies b m.body few) refl

pub all_behind : (bodies : List (List ℕ)) (b : List ℕ) (ms : List Message) → All (λ m. m.body < length bodies) ms → map (message_of (bodies ++ b ∷ [])) ms ≡ map (message_of bodies) ms
all_behind bodies b [] all = refl
all_behind bodies b (m ∷ ms) all = rw (one_behind bodies b m (all 0 m (omega arith)), all_behind bodies b ms (λ i d few. all (suc i) d (omega arith))) refl

pub met_behind : (bodies : List (List ℕ)) (b : List ℕ) (l : Loading) → IsSound (length bodies) l → met_of (bodies ++ b ∷ []) l ≡ met_of bodies l
met_behind bodies b l sound = rw (all_behind bodies b l.messages.items sound.placed) refl

pub sound_behind : (n k : ℕ) (l : Loading) → n ≤ k → IsSound n l → IsSound k l
sound_behind n k l le sound = record {
  small = sound.small;
  tied = sound.tied;
  few = sound.few;
  numbered = sound.numbered;
  placed = λ i d few. omega (arith, le, sound.placed i d few);
}

-- the fault behind sections comes where all of them were met
abbrev unless : Option SectionError → Met → Result Met LoadError
unless None met = Ok met
unless (Some fault) met = Err (fault_of fault)

each : (r : Result Met LoadError) (f g : Met → Result Met LoadError) (fault : Option SectionError) → ((d : Met) → f d ≡ g d >>= unless fault) → r >>= f ≡ (r >>= g) >>= unless fault
each (Ok d) f g fault same = same d
each (Err e) f g fault same = refl

ended : (all : List WholeSection) (fault : Option SectionError) (c : Met) → add_sections all fault c ≡ add_sections all None c >>= unless fault
ended [] None c = refl
ended [] (Some fault) c = refl
ended (s ∷ all) fault c = each (add_section s c) (add_sections all fault) (add_sections all None) fault (λ d. ended all fault d)

pub all_met : (all : List WholeSection) (c met : Met) (end : Option SectionError) → end ≡ None → add_sections all None c ≡ Ok met → add_sections all end c ≡ Ok met
all_met all c met end e is = ap (λ (f : Option SectionError). add_sections all f c) e ∙ is

pub then_fault : (all : List WholeSection) (c met : Met) (fault : SectionError) → add_sections all None c ≡ Ok met → add_sections all (Some fault) c ≡ Err (fault_of fault)
then_fault all c met fault is = ended all (Some fault) c ∙ ap (λ (r : Result Met LoadError). r >>= unless (Some fault)) is

pub before_fault : (all : List WholeSection) (c : Met) (end : Option SectionError) (e : LoadError) → add_sections all None c ≡ Err e → add_sections all end c ≡ Err e
before_fault all c end e is = ended all end c ∙ ap (λ (r : Result Met LoadError). r >>= unless end) is

no_more : (fault : SectionError) (r : Result Met LoadError) {A : Type 0} (g h : Met → Result A LoadError) → (r >>= unless (Some fault)) >>= g ≡ (r >>= unless (Some fault)) >>= h
no_more fault (Ok met) g h = refl
no_more fault (Err e) g h = refl

pub nothing_comes : (all : List WholeSection) (fault : SectionError) (c : Met) {A : Type 0} (g h : Met → Result A LoadError) → add_sections all (Some fault) c >>= g ≡ add_sections all (Some fault) c >>= h
nothing_comes all fault c g h =
    ap (λ (r : Result Met LoadError). r >>= g) (ended all (Some fault) c) ∙ no_more fault (add_sections all None c) g h ∙ sym (ap (λ (r : Result Met LoadError). r >>= h) (ended all (Some fault) c))

-- the section of a chunk's body
pub chunk_section : (s : WholeSection) (c : Met) → s.kind ≡ kind.ChunkBody → add_section s c ≡ (let all = messages_of (fields_of s.body_at s.body) in add_body all.fault all.messages c)
unfolding add_section
chunk_section s c is = rw is refl

-- a section more of those that are left
pub one_met : (p : Part) (left rest : List Part) (c d : Met) (whole : Result Met LoadError) → left ≡ p ∷ rest → add_section (seen_part p) c ≡ Ok d → add_sections (map seen_part left) None c ≡ whole
    → add_sections (map seen_part rest) None d ≡ whole
one_met p left rest c d whole is met so_far =
    sym (ap (λ (r : Result Met LoadError). r >>= add_sections (map seen_part rest) None) met) ∙ sym (ap (λ (ps : List Part). add_sections (map seen_part ps) None c) is) ∙ so_far

pub one_wrong : (p : Part) (left rest : List Part) (c : Met) (e : LoadError) (whole : Result Met LoadError) → left ≡ p ∷ rest → add_section (seen_part p) c ≡ Err e → add_sections (map seen_part left) None c ≡ whole
    → whole ≡ Err e
one_wrong p left rest c e whole is wrong so_far =
    sym so_far ∙ ap (λ (ps : List Part). add_sections (map seen_part ps) None c) is ∙ ap (λ (r : Result Met LoadError). r >>= add_sections (map seen_part rest) None) wrong

-- the sections of a group, and then those behind it
through : (r : Result Met LoadError) (f g h : Met → Result Met LoadError) → ((d : Met) → f d ≡ g d >>= h) → r >>= f ≡ (r >>= g) >>= h
through (Ok d) f g h same = same d
through (Err e) f g h same = refl

joined : (xs ys : List Part) (c : Met) → add_sections (map seen_part (xs ++ ys)) None c ≡ add_sections (map seen_part xs) None c >>= add_sections (map seen_part ys) None
joined [] ys c = refl
joined (x ∷ xs) ys c = through (add_section (seen_part x) c) (add_sections (map seen_part (xs ++ ys)) None) (add_sections (map seen_part xs) None) (add_sections (map seen_part ys) None) (λ d. joined xs ys d)

pub add_group : (group behind all : List Part) (c d : Met) (whole : Result Met LoadError) → all ≡ group ++ behind → add_sections (map seen_part group) None c ≡ Ok d → add_sections (map seen_part all) None c ≡ whole
    → add_sections (map seen_part behind) None d ≡ whole
add_group group behind all c d whole is met so_far =
    sym (ap (λ (r : Result Met LoadError). r >>= add_sections (map seen_part behind) None) met) ∙ sym (joined group behind c) ∙ sym (ap (λ (ps : List Part). add_sections (map seen_part ps) None c) is) ∙ so_far

pub group_wrong : (group behind all : List Part) (c : Met) (e : LoadError) (whole : Result Met LoadError) → all ≡ group ++ behind → add_sections (map seen_part group) None c ≡ Err e → add_sections (map seen_part all) None c ≡ whole
    → whole ≡ Err e
group_wrong group behind all c e whole is wrong so_far =
    sym so_far ∙ ap (λ (ps : List Part). add_sections (map seen_part ps) None c) is ∙ joined group behind c ∙ ap (λ (r : Result Met LoadError). r >>= add_sections (map seen_part behind) None) wrong

front_within : (P : Part → Type 0) (group behind : List Part) → All P (group ++ behind) → All P group × All P behind
front_within P [] behind fine = (All-nil P, fine)
front_within P (p ∷ group) behind fine =
    let both = front_within P group behind (All-tail P p (group ++ behind) fine) in
    (All-cons P p group (All-head P p (group ++ behind) fine) both.0, both.1)

pub group_within : (P : Part → Type 0) (group behind all : List Part) → all ≡ group ++ behind → All P all → All P group
group_within P group behind all is fine = (front_within P group behind (subst (All P) is fine)).0

pub behind_within : (P : Part → Type 0) (group behind all : List Part) → all ≡ group ++ behind → All P all → All P behind
behind_within P group behind all is fine = (front_within P group behind (subst (All P) is fine)).1

pub first_within : (P : Part → Type 0) (p : Part) (left rest : List Part) → left ≡ p ∷ rest → All P left → P p
first_within P p left rest is all = (subst (All P) is all) 0 p (omega arith)

pub rest_within : (P : Part → Type 0) (p : Part) (left rest : List Part) → left ≡ p ∷ rest → All P left → All P rest
rest_within P p left rest is all = λ i d few. (subst (All P) is all) (suc i) d (omega arith)

-- the messages of a chunk whose body is kept behind others
pub chunk_leads : (r : Result (Unit {0}) LoadError) (s : WholeSection) (p : Part) (before : List (List ℕ)) (bytes : List ℕ) (old new : Loading) → s ≡ seen_part p → bytes ≡ p.body → IsSound (length before) old
    → (let all = messages_of (fields_of s.body_at s.body) in Leads r (met_of (before ++ bytes ∷ []) new) (add_body all.fault all.messages (met_of (before ++ bytes ∷ []) old)))
    → (let all = messages_of (fields_of p.body_at p.body) in Leads r (met_of (before ++ p.body ∷ []) new) (add_body all.fault all.messages (met_of before old)))
chunk_leads r s p before bytes old new same is sound leads =
    let P : WholeSection → List ℕ → Met → Type 0 = λ x b m. Leads r (met_of (before ++ b ∷ []) new) (add_body (messages_of (fields_of x.body_at x.body)).fault (messages_of (fields_of x.body_at x.body)).messages m) in
    subst (P (seen_part p) p.body) (met_behind before p.body old sound)
    (subst (λ (b : List ℕ). P (seen_part p) b (met_of (before ++ b ∷ []) old)) is
    (subst (λ (x : WholeSection). P x bytes (met_of (before ++ bytes ∷ []) old)) same leads))

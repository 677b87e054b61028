-- The parts of the text that tells what a record is.
use Rattle.std.proofs.Common.{◌≡◌, ◌≤◌, ◌<◌, ℕ, suc, ◌+◌, List, [], ◌∷◌, ◌++◌, length, take, get_or, refl, ap, sym, ◌∙◌, arith, append_assoc, append-nil, length-take, Bool, true, false}
use Rattle.std.specs.Prelude.{map, min, max}
use Rattle.std.proofs.lemmas.List.{take_more, take_all}
use Rattle.std.specs.Prelude.{filter, not, nat_eq, ◌==◌, ◌&&◌, ◌||◌, OnOk, Result, Ok, Err, set, cond}
use Rattle.std.specs.List.{list_any}
use Rattle.std.specs.HashSet.{HashSet}
use Rattle.std.proofs.lemmas.List.Folds.{list_any-append}
use Rattle.std.proofs.lemmas.List.Filters.{length-filter_more, length-filter_both}
use Rattle.std.proofs.lemmas.List.{get_or-set_same, get_or-set_other}
use Rattle.std.proofs.lemmas.Bool.{eqb-true, eqb-false}
use Rattle.cy_section.specs.Section.{kind_number}
use Rattle.cy_cut.specs.declared.heads.PlacedHead.{PlacedHead}
use Rattle.cy_info.specs.declared.facts.Facts.{Facts}
use Rattle.cy_info.specs.declared.facts.IndexFound.{IndexFound}
use Rattle.cy_info.specs.declared.facts.IndexFound.TheVariants.{Absent, Cut, Unreadable, Present}
use Rattle.cy_reader.specs.Record.{Contents, Message}
use Rattle.cy_info.specs.Info.{least, greatest, numbered, is_head, count_on, channels_of, channel_line, channel_lines, entry_line, entry_difference, index_differences, file_line, front_lines, index_line, header_differences, info_text}
use Rattle.cy_info.specs.private.Facts.{AreFacts, ArePlacesFor, counted_line, placed_line, placed_lines}

-- what stands in the place of a message where there is none
abbrev pub no_message : Message
no_message = record { channel = 0; time = 0; content = [] }

-- a further time
pub least-push : (first : ℕ) (rest : List ℕ) (t : ℕ) → least (first ∷ (rest ++ t ∷ [])) ≡ min (least (first ∷ rest)) t
least-push first [] t = refl
least-push first (next ∷ rest) t = omega (arith, least-push next rest t)

pub greatest-push : (times : List ℕ) (t : ℕ) → greatest (times ++ t ∷ []) ≡ max (greatest times) t
greatest-push [] t = omega arith
greatest-push (first ∷ rest) t = omega (arith, greatest-push rest t)

map-push : {X : Type 0} (f : X → ℕ) (xs : List X) (x : X) → map f (xs ++ x ∷ []) ≡ map f xs ++ f x ∷ []
map-push f [] x = refl
map-push f (y ∷ xs) x = ap (λ (zs : List ℕ). f y ∷ zs) (map-push f xs x)

map-at : {X : Type 0} (f : X → ℕ) (xs : List X) (i : ℕ) (d : X) → i < length xs → map f (take (i + 1) xs) ≡ map f (take i xs) ++ f (get_or xs i d) ∷ []
map-at f xs i d below = ap (map f) (take_more xs i d below) ∙ map-push f (take i xs) (get_or xs i d)

-- a further item of a numbered list
numbered-push : {X : Type 0} (line : ℕ → X → List ℕ) (n : ℕ) (xs : List X) (x : X) → numbered line n (xs ++ x ∷ []) ≡ numbered line n xs ++ line (n + length xs) x
numbered-push line n [] x = append-nil (line n x) ∙ ap (λ k. line k x) (let same : n ≡ n + 0 = omega arith in same)
numbered-push line n (y ∷ xs) x =
    let same : (n + 1) + length xs ≡ n + length (y ∷ xs) = omega arith in
    ap (λ (text : List ℕ). line n y ++ text) (numbered-push line (n + 1) xs x ∙ ap (λ k. numbered line (n + 1) xs ++ line k x) same)
    ∙ sym (append_assoc (line n y) (numbered line (n + 1) xs) (line (n + length (y ∷ xs)) x))

pub numbered-more : {X : Type 0} (line : ℕ → X → List ℕ) (xs : List X) (i : ℕ) (x : X) (first before after : List ℕ) → i < length xs → x ≡ get_or xs i x
    → before ≡ first ++ numbered line 0 (take i xs) → after ≡ before ++ line i x → after ≡ first ++ numbered line 0 (take (i + 1) xs)
numbered-more {X} line xs i x first before after below here is pushed =
    let size : 0 + length (take i xs) ≡ i = omega (arith, length-take i xs, below) in
    let front : take (i + 1) xs ≡ take i xs ++ x ∷ [] = take_more xs i x below ∙ ap (λ (y : X). take i xs ++ y ∷ []) (sym here) in
    let more : numbered line 0 (take (i + 1) xs) ≡ numbered line 0 (take i xs) ++ line i x = ap (numbered line 0) front ∙ numbered-push line 0 (take i xs) x ∙ ap (λ k. numbered line 0 (take i xs) ++ line k x) size in
    rw (more, pushed, is) (append_assoc first (numbered line 0 (take i xs)) (line i x))

pub numbered-alike : {X : Type 0} (f g : ℕ → X → List ℕ) (n most : ℕ) (xs : List X) → n + length xs ≤ most → ((k : ℕ) → k < most → (x : X) → f k x ≡ g k x) → numbered f n xs ≡ numbered g n xs
numbered-alike f g n most [] few same = refl
numbered-alike f g n most (x ∷ xs) few same =
    rw (same n (omega (arith, few)) x, numbered-alike f g (n + 1) most xs (omega (arith, few)) same) refl

-- the least and the greatest time of one message more
pub least-more : (ms : List Message) (i first time next : ℕ) (d : Message) → i < length ms → time ≡ least (first ∷ map (λ m. m.time) (take i ms)) → next ≡ min time (get_or ms i d).time
    → next ≡ least (first ∷ map (λ m. m.time) (take (i + 1) ms))
least-more ms i first time next d below so_far is =
    let f : Message → ℕ = λ m. m.time in
    is ∙ ap (λ t. min t (get_or ms i d).time) so_far ∙ sym (least-push first (map f (take i ms)) (get_or ms i d).time)
    ∙ ap (λ ts. least (first ∷ ts)) (sym (map-at f ms i d below))

-- the first time is looked at twice
least-again : (t : ℕ) (rest : List ℕ) → least (t ∷ t ∷ rest) ≡ least (t ∷ rest)
least-again t [] = omega arith
least-again t (u ∷ rest) = omega arith

pub least-end : (ms : List Message) (i time : ℕ) (d : Message) → length ms ≤ i → 0 < length ms → time ≡ least ((get_or ms 0 d).time ∷ map (λ m. m.time) (take i ms)) → time ≡ least (map (λ m. m.time) ms)
least-end [] i time d over some is = absurd (omega (arith, some))
least-end (m ∷ ms) i time d over some is =
    is ∙ ap (λ (l : List Message). least (m.time ∷ map (λ m. m.time) l)) (take_all i (m ∷ ms) over) ∙ least-again m.time (map (λ m. m.time) ms)

pub greatest-end : (ms : List Message) (i time : ℕ) → length ms ≤ i → time ≡ greatest (map (λ m. m.time) (take i ms)) → time ≡ greatest (map (λ m. m.time) ms)
greatest-end ms i time over is = is ∙ ap (λ (l : List Message). greatest (map (λ m. m.time) l)) (take_all i ms over)

pub greatest-more : (ms : List Message) (i time next : ℕ) (d : Message) → i < length ms → time ≡ greatest (map (λ m. m.time) (take i ms)) → next ≡ max time (get_or ms i d).time
    → next ≡ greatest (map (λ m. m.time) (take (i + 1) ms))
greatest-more ms i time next d below so_far is =
    let f : Message → ℕ = λ m. m.time in
    is ∙ ap (λ t. max t (get_or ms i d).time) so_far ∙ sym (greatest-push (map f (take i ms)) (get_or ms i d).time) ∙ ap greatest (sym (map-at f ms i d below))

-- a message more on its channel
count_here : (channel here i : ℕ) (ms : List Message) (counts : List ℕ) (b : Bool) → (here == channel) ≡ b → here < length counts → get_or counts channel 0 ≡ length (filter (λ m. m.channel == channel) (take i ms))
    → get_or (set counts here (get_or counts here 0 + 1)) channel 0 ≡ length (filter (λ m. m.channel == channel) (take i ms)) + cond b 1 0
count_here channel here i ms counts true e below so_far =
    let same : here ≡ channel = eqb-true here channel e in
    ap (λ (k : ℕ). get_or (set counts here (get_or counts here 0 + 1)) k 0) (sym same) ∙ get_or-set_same counts here (get_or counts here 0 + 1) 0 below
    ∙ ap (λ (k : ℕ). get_or counts k 0 + 1) same ∙ ap (λ (k : ℕ). k + 1) so_far
count_here channel here i ms counts false e below so_far =
    get_or-set_other counts here channel (get_or counts here 0 + 1) 0 (λ same. eqb-false here channel e (sym same)) ∙ so_far ∙ omega arith

filter_short : {X : Type 0} (p : X → Bool) (xs : List X) → length (filter p xs) ≤ length xs
filter_short p xs = omega (arith, length-filter_both p (λ x. not (p x)) (λ x. refl) xs)

pub count-few : (ms : List Message) (i channels : ℕ) (d : Message) (counts : List ℕ) → i < length ms → (get_or ms i d).channel < channels → length ms < 4294967296
    → ((channel : ℕ) → channel < channels → get_or counts channel 0 ≡ length (filter (λ m. m.channel == channel) (take i ms))) → get_or counts (get_or ms i d).channel 0 < 4294967296
count-few ms i channels d counts inside below few each =
    let here = (get_or ms i d).channel in
    omega (arith, each here below, filter_short (λ m. m.channel == here) (take i ms), length-take i ms, few)

pub count-more : (ms : List Message) (i channels : ℕ) (d : Message) (counts new : List ℕ) → i < length ms → (get_or ms i d).channel < channels → length counts ≡ channels
    → ((channel : ℕ) → channel < channels → get_or counts channel 0 ≡ length (filter (λ m. m.channel == channel) (take i ms)))
    → new ≡ set counts (get_or ms i d).channel (get_or counts (get_or ms i d).channel 0 + 1) → (channel : ℕ) → channel < channels
    → get_or new channel 0 ≡ length (filter (λ m. m.channel == channel) (take (i + 1) ms))
count-more ms i channels d counts new inside below all each is channel few =
    let here = (get_or ms i d).channel in
    ap (λ (cs : List ℕ). get_or cs channel 0) is
    ∙ count_here channel here i ms counts (here == channel) refl (omega (arith, below, all)) (each channel few)
    ∙ sym (length-filter_more (λ m. m.channel == channel) ms i d inside)

filter-first : {X : Type 0} (p : ℕ → Bool) (f : X → ℕ) (x : X) (xs : List X) (b : Bool) → p (f x) ≡ b → length (filter p (map f xs)) ≡ length (filter (λ x. p (f x)) xs)
    → length (filter p (map f (x ∷ xs))) ≡ length (filter (λ y. p (f y)) (x ∷ xs))
filter-first p f x xs true is rest = rw is (ap suc rest)
filter-first p f x xs false is rest = rw is rest

filter-map : {X : Type 0} (p : ℕ → Bool) (f : X → ℕ) (xs : List X) → length (filter p (map f xs)) ≡ length (filter (λ x. p (f x)) xs)
filter-map p f [] = refl
filter-map p f (x ∷ xs) = filter-first p f x xs (p (f x)) refl (filter-map p f xs)

pub counts-of : (ms : List Message) (n : ℕ) → count_on n (map (λ m. m.channel) ms) ≡ length (filter (λ m. m.channel == n) ms)
counts-of ms n = filter-map (λ c. c == n) (λ m. m.channel) ms

pub counts-end : (ms : List Message) (i channels : ℕ) (counts : List ℕ) → length ms ≤ i → ((channel : ℕ) → channel < channels → get_or counts channel 0 ≡ length (filter (λ m. m.channel == channel) (take i ms)))
    → (n : ℕ) → n < channels → get_or counts n 0 ≡ count_on n (map (λ m. m.channel) ms)
counts-end ms i channels counts over each n few = each n few ∙ ap (λ (l : List Message). length (filter (λ m. m.channel == n) l)) (take_all i ms over) ∙ sym (counts-of ms n)

-- a head more
any_more : (a b : Bool) → cond a true b ≡ (b || (a || false))
any_more true true = refl
any_more true false = refl
any_more false true = refl
any_more false false = refl

pub head-more : (heads : List PlacedHead) (i : ℕ) (d : PlacedHead) (old new : Bool) (position number kind : ℕ) → i < length heads → kind ≡ kind_number (get_or heads i d).kind
    → old ≡ is_head (take i heads) position number → new ≡ cond (nat_eq (get_or heads i d).at position && nat_eq kind number) true old → new ≡ is_head (take (i + 1) heads) position number
head-more heads i d old new position number kind inside is so_far step =
    let p : PlacedHead → Bool = λ h. (h.at == position) && (kind_number h.kind == number) in
    let h = get_or heads i d in
    step ∙ ap (λ k. cond (nat_eq h.at position && nat_eq k number) true old) is ∙ ap (λ o. cond (p h) true o) so_far
    ∙ any_more (p h) (list_any p (take i heads)) ∙ sym (list_any-append p (take i heads) (h ∷ [])) ∙ ap (list_any p) (sym (take_more heads i d inside))

-- the lines that are told one after another
pub three : {T E : Type 0} (r : Result T E) (o a b n x y z : List ℕ) → a ≡ o ++ x → b ≡ a ++ y → OnOk r (n ≡ b ++ z) → OnOk r (n ≡ o ++ ((x ++ y) ++ z))
three (Ok t) o a b n x y z first second third = third ∙ ap (λ l. l ++ z) (second ∙ ap (λ l. l ++ y) first ∙ append_assoc o x y) ∙ append_assoc o (x ++ y) z
three (Err e) o a b n x y z first second third = third

six : (o u v w x y z : List ℕ) → (((((o ++ u) ++ v) ++ w) ++ x) ++ y) ++ z ≡ o ++ (((((u ++ v) ++ w) ++ x) ++ y) ++ z)
six o u v w x y z =
    ap (λ l. l ++ z) (ap (λ l. l ++ y) (ap (λ l. l ++ x) (ap (λ l. l ++ w) (append_assoc o u v) ∙ append_assoc o (u ++ v) w) ∙ append_assoc o ((u ++ v) ++ w) x) ∙ append_assoc o (((u ++ v) ++ w) ++ x) y)
    ∙ append_assoc o ((((u ++ v) ++ w) ++ x) ++ y) z

channels-told : (w : Contents) (facts : Facts) → AreFacts w facts → numbered (counted_line facts.counts.items) 0 w.channels ≡ channel_lines (channels_of w.messages) w.channels
channels-told w facts are =
    numbered-alike (counted_line facts.counts.items) (λ n known. channel_line known (count_on n (channels_of w.messages))) 0 (length w.channels) w.channels (omega arith)
    (λ k few known. ap (λ n. channel_line known n) (are.counts.each k few))

entries-told : {S : Type 0} (w : Contents) (places : HashSet (ℕ × ℕ) S) (found : IndexFound) → ArePlacesFor found w.source.heads places → placed_lines places found ≡ index_differences w.source.heads found
entries-told w places Absent are = refl
entries-told w places Cut are = refl
entries-told w places Unreadable are = refl
entries-told w places (Present entries) are =
    numbered-alike (placed_line places) (entry_difference w.source.heads) 0 (length entries) entries (omega arith) (λ k few e. ap (λ b. entry_line k e b) (are e.position e.kind))

pub info-told : {T E : Type 0} (r : Result T E) (w : Contents) (facts : Facts) (o a b d e f n : List ℕ) → AreFacts w facts → a ≡ o ++ file_line w.source.name w.source.size
    → b ≡ a ++ front_lines w.source.header facts.counted → d ≡ b ++ index_line facts.index → e ≡ d ++ numbered (counted_line facts.counts.items) 0 w.channels
    → f ≡ e ++ header_differences w.source.header facts.counted → OnOk r (n ≡ f ++ placed_lines facts.places facts.index) → OnOk r (n ≡ o ++ info_text w)
unfolding info_text
info-told (Err x) w facts o a b d e f n are file front index channels header entries = entries
info-told (Ok x) w facts o a b d e f n are file front index channels header entries =
    entries ∙ ap (λ l. l ++ placed_lines facts.places facts.index) (header ∙ ap (λ l. l ++ header_differences w.source.header facts.counted)
    (channels ∙ ap (λ l. l ++ numbered (counted_line facts.counts.items) 0 w.channels) (index ∙ ap (λ l. l ++ index_line facts.index) (front ∙ ap (λ l. l ++ front_lines w.source.header facts.counted) file))))
    ∙ six o (file_line w.source.name w.source.size) (front_lines w.source.header facts.counted) (index_line facts.index) (numbered (counted_line facts.counts.items) 0 w.channels)
    (header_differences w.source.header facts.counted) (placed_lines facts.places facts.index)
    ∙ rw (channels-told w facts are, entries-told w facts.places facts.index are.places, are.counted, are.index) refl

-- What stands of a record whose writing stopped.
use Rattle.std.proofs.Common.{◌≡◌, ℕ, zero, suc, ◌+◌, ◌<◌, Bool, true, false, cond, List, [], ◌∷◌, ◌++◌, map, length, get_or, drop, Option, Some, None, refl, sym, ap, ◌∙◌, subst, arith, append_assoc, append-nil, length-append}
use Rattle.std.specs.List.{flat_map}
use Rattle.std.specs.Str.{bytes_eq}
use Rattle.std.specs.Option.{MatchOption, unwrap_or}
use Rattle.std.specs.Ordering.{nat_cmp, eq_by_cmp}
use Rattle.std.specs.Cmp.Lexicographic.{slice_cmp, nat_list_cmp_total}
use Rattle.std.specs.FinMap.{get, insert, get-insert}
use Rattle.std.proofs.lemmas.List.{take_all, drop_at}
use Rattle.std.proofs.lemmas.Map.Text.{is_eq-slice_cmp}
use Rattle.std.proofs.lemmas.Slice.Eq.{bytes_eq-Decides}
use Rattle.cy_store.specs.Files.{Files, content}
use Rattle.cy_store.specs.Write.{Write, Create, Put, name_of, after_write, after_writes, written_at, IsTorn, Leaves}
use Rattle.cy_section.specs.declared.types.Channel.{Channel}
use Rattle.cy_section.specs.declared.types.BodyMessage.{BodyMessage}
use Rattle.cy_section.specs.Section.{header_section}
use Rattle.cy_section.specs.RecordText.{parts_of, bytes_of, index_section, header_end, incomplete_header, complete_header, record_bytes}
use Rattle.cy_section.proofs.Lengths.{length-header_section}
use Rattle.cy_writer.specs.Writes.{placed, file_after, puts_into, StopsAt, StopsBefore}
use Rattle.cy_writer.specs.RecordWrites.{file_writes, record_sections, record_puts}
use Rattle.cy_writer.specs.Unfinished.{unfinished, StandsTorn, StandsCut, AreOfOthers, writes_among}
use Rattle.cy_writer.specs.Unfinished.{Unmade, Begun, Torn, Headless, Whole, Untouched, Empty, Front, Complete}
use Rattle.cy_writer.proofs.Puts.{put_of, after_writes-append, get-inserted, get-after, written_at-end}
use Rattle.cy_writer.proofs.RecordBytes.{after_placed, after_record, flat-parts, file_after-record}

-- Files of other names.

other_inserted : (m : Files) (name bytes q : List ℕ) → (name ≡ q → ⊥) → get (insert m name bytes) q ≡ get m q
other_inserted m name bytes q apart =
    get-insert nat_list_cmp_total m name bytes q
    ∙ ap (λ (b : Bool). cond b (Some bytes) (get m q)) (differs (bytes_eq q name) refl)
  where
    differs : (b : Bool) → bytes_eq q name ≡ b → eq_by_cmp (slice_cmp nat_cmp) q name ≡ false
    differs true e = absurd (apart (sym ((bytes_eq-Decides q name).0 e)))
    differs false e = is_eq-slice_cmp q name ∙ e

other_write : (w : Write) (m : Files) (q : List ℕ) → (name_of w ≡ q → ⊥) → get (after_write w m) q ≡ get m q
other_write (Create name) m q apart = other_inserted m name [] q apart
other_write (Put name at bytes) m q apart = other_inserted m name (written_at (content m name) at bytes) q apart

later_ones : (q : List ℕ) (w : Write) (rest : List Write) → AreOfOthers q (w ∷ rest) → AreOfOthers q rest
later_ones q w rest all = λ k d h. all (suc k) d (omega (arith, h))

others_after : (q : List ℕ) (writes : List Write) (m : Files) → AreOfOthers q writes → get (after_writes writes m) q ≡ get m q
others_after q [] m all = refl
others_after q (w ∷ rest) m all = others_after q rest (after_write w m) (later_ones q w rest all) ∙ other_write w m q (all 0 w (omega arith))

other_left : (w : Write) (m n : Files) (q : List ℕ) → (name_of w ≡ q → ⊥) → Leaves w m n → get n q ≡ get m q
other_left (Create name) m n q apart same = ap (λ (f : Files). get f q) same
other_left (Put name at bytes) m n q apart left = by (get m name) left
  where
    by : (found : Option (List ℕ)) → MatchOption found (n ≡ m) (λ before. (after : List ℕ) × IsTorn at (length bytes) before after × (n ≡ insert m name after))
        → get n q ≡ get m q
    by None same = ap (λ (f : Files). get f q) same
    by (Some before) (after, torn, is) = ap (λ (f : Files). get f q) is ∙ other_inserted m name after q apart

split_others : (q : List ℕ) (before later : List Write) (w : Write) → AreOfOthers q (before ++ w ∷ later) → AreOfOthers q before × (name_of w ≡ q → ⊥)
split_others q [] later w all = ((λ k d h. absurd (omega (arith, h))), all 0 w (omega arith))
split_others q (x ∷ before) later w all =
    let more = split_others q before later w (later_ones q x (before ++ w ∷ later) all) in
    (both (all 0 x (omega arith)) more.0, more.1)
  where
    both : (name_of x ≡ q → ⊥) → AreOfOthers q before → AreOfOthers q (x ∷ before)
    both first rest zero d h = first
    both first rest (suc k) d h = rest k d (omega (arith, h))

pub others_stay : (q : List ℕ) (writes : List Write) (failed : Write) (m n : Files) → AreOfOthers q writes → StopsAt writes failed (Some m) (Some n) → get n q ≡ get m q
others_stay q writes failed m n all stops =
    let apart = split_others q stops.before stops.later failed (subst (AreOfOthers q) (sym stops.split) all) in
    other_left failed (after_writes stops.before m) n q apart.1 stops.left
    ∙ others_after q stops.before m apart.0

front_item : (before later : List Write) (k : ℕ) (d : Write) → k < length before → get_or (before ++ later) k d ≡ get_or before k d
front_item [] later k d h = absurd (omega (arith, h))
front_item (x ∷ xs) later zero d h = refl
front_item (x ∷ xs) later (suc k) d h = front_item xs later k d (omega (arith, h))

front_others : (q : List ℕ) (before later : List Write) → AreOfOthers q (before ++ later) → AreOfOthers q before
front_others q before later all = λ k d h. subst (λ (w : Write). name_of w ≡ q → ⊥) (front_item before later k d h) (all k d (omega (arith, h, length-append before later)))

pub others_stay_starved : (q : List ℕ) (writes : List Write) (m n : Files) → AreOfOthers q writes → StopsBefore writes (Some m) (Some n) → get n q ≡ get m q
others_stay_starved q writes m n all stops =
    ap (λ (f : Option Files). get (unwrap_or f m) q) stops.left
    ∙ others_after q stops.before m (front_others q stops.before stops.later (subst (AreOfOthers q) (sym stops.split) all))

-- Where a list is split that is two lists, one behind the other.

head_is : {A : Type 0} (a b : A) (xs ys : List A) → a ∷ xs ≡ b ∷ ys → a ≡ b
head_is a b xs ys e = cc

tail_is : {A : Type 0} (a b : A) (xs ys : List A) → a ∷ xs ≡ b ∷ ys → xs ≡ ys
tail_is a b xs ys e = cc

data Where {A : Type 0} (before : List A) (x : A) (later xs ys : List A) : Type 0 where
  in_first : (rest : List A) → before ++ x ∷ rest ≡ xs → Where before x later xs ys
  in_second : (more : List A) → xs ++ more ≡ before → more ++ x ∷ later ≡ ys → Where before x later xs ys

where_split : {A : Type 0} (before : List A) (x : A) (later xs ys : List A) → before ++ x ∷ later ≡ xs ++ ys → Where before x later xs ys
where_split before x later [] ys e = in_second before refl e
where_split [] x later (a ∷ xs) ys e = in_first xs (ap (λ (b : _). b ∷ xs) (head_is x a later (xs ++ ys) e))
where_split (b ∷ before) x later (a ∷ xs) ys e = further (where_split before x later xs ys (tail_is b a (before ++ x ∷ later) (xs ++ ys) e))
  where
    further : Where before x later xs ys → Where (b ∷ before) x later (a ∷ xs) ys
    further (in_first rest is) = in_first rest (ap (λ (l : _). b ∷ l) is ∙ ap (λ (c : _). c ∷ xs) (head_is b a (before ++ x ∷ later) (xs ++ ys) e))
    further (in_second more is end) = in_second more (ap (λ (l : _). a ∷ l) is ∙ ap (λ (c : _). c ∷ before) (sym (head_is b a (before ++ x ∷ later) (xs ++ ys) e))) end

-- the front of a list that is mapped
record MapsTo {A B : Type 0} (f : A → B) (xs : List A) (before : List B) (y : B) : Type 0 where
  done : List A
  item : A
  rest : List A
  split : done ++ item ∷ rest ≡ xs
  front : map f done ≡ before
  is : f item ≡ y

mapped : {A B : Type 0} (f : A → B) (xs : List A) (before later : List B) (y : B) → before ++ y ∷ later ≡ map f xs → MapsTo f xs before y
mapped f [] [] later y e = cc
mapped f [] (b ∷ before) later y e = cc
mapped f (x ∷ xs) [] later y e = record { done = []; item = x; rest = xs; split = refl; front = refl; is = sym (head_is y (f x) later (map f xs) e) }
mapped f (x ∷ xs) (b ∷ before) later y e =
    let more = mapped f xs before later y (tail_is b (f x) (before ++ y ∷ later) (map f xs) e) in
    record {
      done = x ∷ more.done;
      item = more.item;
      rest = more.rest;
      split = ap (λ (l : List _). x ∷ l) more.split;
      front = ap (λ (l : List _). f x ∷ l) more.front ∙ ap (λ (c : _). c ∷ before) (sym (head_is b (f x) (before ++ y ∷ later) (map f xs) e));
      is = more.is;
    }

-- the front of pieces that are placed
record Places (at : ℕ) (pieces : List (List ℕ)) (before : List (ℕ × List ℕ)) (put : ℕ × List ℕ) : Type 0 where
  done : List (List ℕ)
  next : List ℕ
  later : List (List ℕ)
  split : done ++ next ∷ later ≡ pieces
  front : placed at done ≡ before
  is : put ≡ (at + length (flat_map (λ piece. piece) done), next)

piece_placed : (at : ℕ) (pieces : List (List ℕ)) (before later : List (ℕ × List ℕ)) (put : ℕ × List ℕ) → before ++ put ∷ later ≡ placed at pieces → Places at pieces before put
piece_placed at [] [] later put e = cc
piece_placed at [] (b ∷ before) later put e = cc
piece_placed at (p ∷ pieces) [] later put e = record {
  done = [];
  next = p;
  later = pieces;
  split = refl;
  front = refl;
  is = head_is put (at, p) later (placed (at + length p) pieces) e ∙ ap (λ (n : ℕ). (n, p)) (omega arith);
}
piece_placed at (p ∷ pieces) (b ∷ before) later put e =
    let more = piece_placed (at + length p) pieces before later put (tail_is b (at, p) (before ++ put ∷ later) (placed (at + length p) pieces) e) in
    record {
      done = p ∷ more.done;
      next = more.next;
      later = more.later;
      split = ap (λ (l : List (List ℕ)). p ∷ l) more.split;
      front = ap (λ (l : List (ℕ × List ℕ)). (at, p) ∷ l) more.front ∙ ap (λ (c : ℕ × List ℕ). c ∷ before) (sym (head_is b (at, p) (before ++ put ∷ later) (placed (at + length p) pieces) e));
      is = more.is ∙ ap (λ (n : ℕ). (n, more.next)) (omega (arith, length-append p (flat_map (λ (piece : List ℕ). piece) more.done)));
    }

-- The file of a record.

length-unfinished : (sections : List (List ℕ)) → length (unfinished sections) ≡ header_end + length (flat_map (λ (section : List ℕ). section) sections)
length-unfinished sections =
    length-append (header_section incomplete_header) (flat_map (λ (section : List ℕ). section) sections)
    ∙ ap (λ (n : ℕ). n + length (flat_map (λ (section : List ℕ). section) sections)) (length-header_section incomplete_header)

-- the header and some sections are put
after_sections : (sections : List (List ℕ)) → file_after [] ((0, header_section incomplete_header) ∷ placed header_end sections) ≡ unfinished sections
after_sections sections =
    ap (λ (b : List ℕ). file_after b (placed header_end sections)) (written_at-end [] (header_section incomplete_header) 0 refl)
    ∙ after_placed sections (header_section incomplete_header) header_end (length-header_section incomplete_header)

-- the sections, as a record has them
whole-sections : (channels : List Channel) (chunks : List (List BodyMessage))
    → drop header_end (record_bytes channels chunks) ≡ drop header_end (unfinished (record_sections channels chunks))
unfolding record_bytes
whole-sections channels chunks =
    let parts = parts_of channels chunks in
    let behind = flat_map (λ (section : List ℕ). section) (record_sections channels chunks) in
    let last = header_section (complete_header channels chunks) in
    ap (drop header_end) (append_assoc last (bytes_of parts) (index_section parts) ∙ ap (λ (l : List ℕ). last ++ l) (sym (flat-parts parts (index_section parts))))
    ∙ drop_at last behind header_end (length-header_section (complete_header channels chunks))
    ∙ sym (drop_at (header_section incomplete_header) behind header_end (length-header_section incomplete_header))

length-whole : (channels : List Channel) (chunks : List (List BodyMessage)) → length (record_bytes channels chunks) ≡ length (unfinished (record_sections channels chunks))
unfolding record_bytes
length-whole channels chunks =
    let parts = parts_of channels chunks in
    let last = header_section (complete_header channels chunks) in
    omega (
      arith,
      ap length (append_assoc last (bytes_of parts) (index_section parts) ∙ ap (λ (l : List ℕ). last ++ l) (sym (flat-parts parts (index_section parts)))),
      length-append last (flat_map (λ (section : List ℕ). section) (record_sections channels chunks)),
      length-header_section (complete_header channels chunks),
      length-unfinished (record_sections channels chunks),
    )

-- a section is torn
section_torn : (name : List ℕ) (channels : List Channel) (chunks : List (List BodyMessage)) (failed : Write) (old new : Option (List ℕ)) (bytes next : List ℕ) (done later : List (List ℕ))
    → done ++ next ∷ later ≡ record_sections channels chunks → failed ≡ Put name (length (unfinished done)) next → new ≡ Some bytes
    → IsTorn (length (unfinished done)) (length next) (unfinished done) bytes → StandsTorn name channels chunks failed old new
section_torn name channels chunks failed old new bytes next done later split fails is torn = Torn bytes next done later split fails is record {
  same = torn.front ∙ take_all (length (unfinished done)) (unfinished done) (omega arith);
  few = omega (arith, torn.no_longer);
}

-- a put of a record is torn
put_torn : (name : List ℕ) (channels : List Channel) (chunks : List (List BodyMessage)) (failed : Write) (old new : Option (List ℕ)) (bytes : List ℕ) (done rest : List (ℕ × List ℕ)) (put : ℕ × List ℕ)
    → done ++ put ∷ rest ≡ record_puts channels chunks → failed ≡ Put name put.0 put.1 → new ≡ Some bytes → IsTorn put.0 (length put.1) (file_after [] done) bytes
    → StandsTorn name channels chunks failed old new
unfolding record_puts
put_torn name channels chunks failed old new bytes [] rest put split fails is torn =
    let first : put ≡ (0, header_section incomplete_header) = head_is put (0, header_section incomplete_header) rest _ split in
    Begun bytes (fails ∙ ap (λ (p : ℕ × List ℕ). Put name p.0 p.1) first) is (omega (arith, torn.no_longer, ap (λ (p : ℕ × List ℕ). p.0 + length p.1) first, length-header_section incomplete_header))
put_torn name channels chunks failed old new bytes (b ∷ done) rest put split fails is torn =
    by (where_split done put rest (placed header_end (record_sections channels chunks)) ((0, header_section (complete_header channels chunks)) ∷ []) (tail_is b (0, header_section incomplete_header) (done ++ put ∷ rest) _ split))
  where
    began : b ≡ (0, header_section incomplete_header)
    began = head_is b (0, header_section incomplete_header) (done ++ put ∷ rest) _ split

    by : Where done put rest (placed header_end (record_sections channels chunks)) ((0, header_section (complete_header channels chunks)) ∷ []) → StandsTorn name channels chunks failed old new
    by (in_first behind inside) =
        let place = piece_placed header_end (record_sections channels chunks) done behind put inside in
        let before : file_after [] (b ∷ done) ≡ unfinished place.done =
        ap (λ (ps : List (ℕ × List ℕ)). file_after [] ps) (ap (λ (c : ℕ × List ℕ). c ∷ done) began ∙ ap (λ (ps : List (ℕ × List ℕ)). (0, header_section incomplete_header) ∷ ps) (sym place.front))
        ∙ after_sections place.done in
        let at : put.0 ≡ length (unfinished place.done) = ap (λ (p : ℕ × List ℕ). p.0) place.is ∙ sym (length-unfinished place.done) in
        let size : length put.1 ≡ length place.next = ap (λ (p : ℕ × List ℕ). length p.1) place.is in
        section_torn name channels chunks failed old new bytes place.next place.done place.later place.split
        (fails ∙ ap (λ (n : ℕ). Put name n put.1) at ∙ ap (Put name (length (unfinished place.done))) (ap (λ (p : ℕ × List ℕ). p.1) place.is)) is
        (subst (λ (n : ℕ). IsTorn n (length place.next) (unfinished place.done) bytes) at
        (subst (λ (n : ℕ). IsTorn put.0 n (unfinished place.done) bytes) size
        (subst (λ (f : List ℕ). IsTorn put.0 (length put.1) f bytes) before torn)))
    by (in_second [] inside last) =
        let header = header_section (complete_header channels chunks) in
        let sections = record_sections channels chunks in
        let is_last : put ≡ (0, header) = head_is put (0, header) rest [] last in
        let before : file_after [] (b ∷ done) ≡ unfinished sections =
        ap (λ (ps : List (ℕ × List ℕ)). file_after [] ps) (ap (λ (c : ℕ × List ℕ). c ∷ done) began ∙ ap (λ (ps : List (ℕ × List ℕ)). (0, header_section incomplete_header) ∷ ps) (sym (sym (append-nil (placed header_end sections)) ∙ inside)))
        ∙ after_sections sections in
        let here : IsTorn 0 (length header) (unfinished sections) bytes =
        subst (λ (f : List ℕ). IsTorn 0 (length header) f bytes) before (subst (λ (p : ℕ × List ℕ). IsTorn p.0 (length p.1) (file_after [] (b ∷ done)) bytes) is_last torn) in
        let size : length header ≡ header_end = length-header_section (complete_header channels chunks) in
        let end : 0 + length header ≡ header_end = omega (arith, size) in
        let back : drop header_end bytes ≡ drop header_end (unfinished sections) = subst (λ (n : ℕ). drop n bytes ≡ drop n (unfinished sections)) end here.back in
        Headless bytes (fails ∙ ap (λ (p : ℕ × List ℕ). Put name p.0 p.1) is_last) is
        (omega (arith, here.no_shorter, here.no_longer, size, length-unfinished sections, length-whole channels chunks))
        (back ∙ sym (whole-sections channels chunks))
    by (in_second (p ∷ more) inside last) = absurd (omega (arith, ap length last, length-append more (put ∷ rest)))

-- The files after its writes.

-- those before and the first pieces of the file are done
begun_file : (name : List ℕ) (first before : List Write) (done : List (ℕ × List ℕ)) (m : Files) → first ++ Create name ∷ puts_into name done ≡ before
    → get (after_writes before m) name ≡ Some (file_after [] done)
begun_file name first before done m e =
    ap (λ (ws : List Write). get (after_writes ws m) name) (sym e)
    ∙ ap (λ (f : Files). get f name) (after_writes-append first (Create name ∷ puts_into name done) m)
    ∙ get-after name done (insert (after_writes first m) name []) [] (get-inserted (after_writes first m) name [])

-- a put of a file that is there is torn
torn_put : (m n : Files) (name bytes before : List ℕ) (at : ℕ) → get m name ≡ Some before → Leaves (Put name at bytes) m n
    → (after : List ℕ) × IsTorn at (length bytes) before after × (get n name ≡ Some after)
torn_put m n name bytes before at here left = by (subst (λ (found : Option (List ℕ)). MatchOption found (n ≡ m) (λ was. (after : List ℕ) × IsTorn at (length bytes) was after × (n ≡ insert m name after))) here left)
  where
    by : (after : List ℕ) × IsTorn at (length bytes) before after × (n ≡ insert m name after) → (after : List ℕ) × IsTorn at (length bytes) before after × (get n name ≡ Some after)
    by (after, torn, is) = (after, torn, ap (λ (f : Files). get f name) is ∙ get-inserted m name after)

pub failed_leaves : (name : List ℕ) (channels : List Channel) (chunks : List (List BodyMessage)) (first last : List Write) (failed : Write) (m n : Files)
    → AreOfOthers name first → AreOfOthers name last → StopsAt (writes_among first name channels chunks last) failed (Some m) (Some n)
    → StandsTorn name channels chunks failed (get m name) (get n name)
failed_leaves name channels chunks first last failed m n of_first of_last stops =
    by (where_split stops.before failed stops.later first (file_writes name (record_puts channels chunks) ++ last) stops.split)
  where
    whole : List Write
    whole = file_writes name (record_puts channels chunks)

    in_puts : (more rest : List Write) → first ++ Create name ∷ more ≡ stops.before → more ++ failed ∷ rest ≡ puts_into name (record_puts channels chunks)
        → StandsTorn name channels chunks failed (get m name) (get n name)
    in_puts more rest before inside =
        let put = mapped (put_of name) (record_puts channels chunks) more rest failed inside in
        let here = begun_file name first stops.before put.done m (ap (λ (ws : List Write). first ++ Create name ∷ ws) put.front ∙ before) in
        let torn = torn_put (after_writes stops.before m) n name put.item.1 (file_after [] put.done) put.item.0 here (subst (λ (w : Write). Leaves w (after_writes stops.before m) n) (sym put.is) stops.left) in
        put_torn name channels chunks failed (get m name) (get n name) torn.0 put.done put.rest put.item put.split (sym put.is) torn.2 torn.1

    in_file : (more rest : List Write) → first ++ more ≡ stops.before → more ++ failed ∷ rest ≡ Create name ∷ puts_into name (record_puts channels chunks)
        → StandsTorn name channels chunks failed (get m name) (get n name)
    in_file [] rest before inside =
        let made : failed ≡ Create name = head_is failed (Create name) rest (puts_into name (record_puts channels chunks)) inside in
        let same : n ≡ after_writes stops.before m = subst (λ (w : Write). Leaves w (after_writes stops.before m) n) made stops.left in
        Unmade (λ of. made) (ap (λ (f : Files). get f name) same
        ∙ ap (λ (ws : List Write). get (after_writes ws m) name) (sym before ∙ append-nil first)
        ∙ others_after name first m of_first)
    in_file (w ∷ more) rest before inside =
        let made : w ≡ Create name = head_is w (Create name) (more ++ failed ∷ rest) (puts_into name (record_puts channels chunks)) inside in
        in_puts more rest (ap (λ (x : Write). first ++ x ∷ more) (sym made) ∙ before) (tail_is w (Create name) (more ++ failed ∷ rest) (puts_into name (record_puts channels chunks)) inside)

    behind : (more : List Write) → first ++ more ≡ stops.before → Where more failed stops.later whole last → StandsTorn name channels chunks failed (get m name) (get n name)
    behind more before (in_first rest inside) = in_file more rest before inside
    behind more before (in_second beyond inside end) =
        let apart = split_others name beyond stops.later failed (subst (AreOfOthers name) (sym end) of_last) in
        let done : after_writes stops.before m ≡ after_writes beyond (after_writes whole (after_writes first m)) =
        ap (λ (ws : List Write). after_writes ws m) (sym before ∙ ap (λ (ws : List Write). first ++ ws) (sym inside))
        ∙ after_writes-append first (whole ++ beyond) m ∙ after_writes-append whole beyond (after_writes first m) in
        Whole apart.1 (other_left failed (after_writes stops.before m) n name apart.1 stops.left
        ∙ ap (λ (f : Files). get f name) done
        ∙ others_after name beyond (after_writes whole (after_writes first m)) apart.0
        ∙ ap (λ (f : Files). get f name) (after_record channels chunks (after_writes first m) name)
        ∙ get-inserted (after_writes first m) name (record_bytes channels chunks))

    by : Where stops.before failed stops.later first (whole ++ last) → StandsTorn name channels chunks failed (get m name) (get n name)
    by (in_first rest inside) =
        let apart = split_others name stops.before rest failed (subst (AreOfOthers name) (sym inside) of_first) in
        Unmade (λ of. absurd (apart.1 of)) (other_left failed (after_writes stops.before m) n name apart.1 stops.left ∙ others_after name stops.before m apart.0)
    by (in_second more inside end) = behind more inside (where_split more failed stops.later whole last end)

-- Where a list ends that is the front of two lists, one behind the other.

data Ends {A : Type 0} (before later xs ys : List A) : Type 0 where
  ends_first : (rest : List A) → before ++ rest ≡ xs → Ends before later xs ys
  ends_second : (more : List A) → xs ++ more ≡ before → more ++ later ≡ ys → Ends before later xs ys

where_ends : {A : Type 0} (before later xs ys : List A) → before ++ later ≡ xs ++ ys → Ends before later xs ys
where_ends before later [] ys e = ends_second before refl e
where_ends [] later (a ∷ xs) ys e = ends_first (a ∷ xs) refl
where_ends (b ∷ before) later (a ∷ xs) ys e = further (where_ends before later xs ys (tail_is b a (before ++ later) (xs ++ ys) e))
  where
    further : Ends before later xs ys → Ends (b ∷ before) later (a ∷ xs) ys
    further (ends_first rest is) = ends_first rest (ap (λ (l : _). b ∷ l) is ∙ ap (λ (c : _). c ∷ xs) (head_is b a (before ++ later) (xs ++ ys) e))
    further (ends_second more is end) = ends_second more (ap (λ (l : _). a ∷ l) is ∙ ap (λ (c : _). c ∷ before) (sym (head_is b a (before ++ later) (xs ++ ys) e))) end

-- the front of a list that is mapped, or of pieces that are placed
record MapsFront {A B : Type 0} (f : A → B) (xs : List A) (before : List B) : Type 0 where
  done : List A
  rest : List A
  split : done ++ rest ≡ xs
  front : map f done ≡ before

mapped_front : {A B : Type 0} (f : A → B) (xs : List A) (before later : List B) → before ++ later ≡ map f xs → MapsFront f xs before
mapped_front f xs [] later e = record { done = []; rest = xs; split = refl; front = refl }
mapped_front f [] (b ∷ before) later e = cc
mapped_front f (x ∷ xs) (b ∷ before) later e =
    let more = mapped_front f xs before later (tail_is b (f x) (before ++ later) (map f xs) e) in
    record {
      done = x ∷ more.done;
      rest = more.rest;
      split = ap (λ (l : List _). x ∷ l) more.split;
      front = ap (λ (l : List _). f x ∷ l) more.front ∙ ap (λ (c : _). c ∷ before) (sym (head_is b (f x) (before ++ later) (map f xs) e));
    }

record PlacesFront (at : ℕ) (pieces : List (List ℕ)) (before : List (ℕ × List ℕ)) : Type 0 where
  done : List (List ℕ)
  later : List (List ℕ)
  split : done ++ later ≡ pieces
  front : placed at done ≡ before

pieces_front : (at : ℕ) (pieces : List (List ℕ)) (before later : List (ℕ × List ℕ)) → before ++ later ≡ placed at pieces → PlacesFront at pieces before
pieces_front at pieces [] later e = record { done = []; later = pieces; split = refl; front = refl }
pieces_front at [] (b ∷ before) later e = cc
pieces_front at (p ∷ pieces) (b ∷ before) later e =
    let more = pieces_front (at + length p) pieces before later (tail_is b (at, p) (before ++ later) (placed (at + length p) pieces) e) in
    record {
      done = p ∷ more.done;
      later = more.later;
      split = ap (λ (l : List (List ℕ)). p ∷ l) more.split;
      front = ap (λ (l : List (ℕ × List ℕ)). (at, p) ∷ l) more.front ∙ ap (λ (c : ℕ × List ℕ). c ∷ before) (sym (head_is b (at, p) (before ++ later) (placed (at + length p) pieces) e));
    }

-- some of the puts of a record are done
puts_cut : (channels : List Channel) (chunks : List (List BodyMessage)) (old new : Option (List ℕ)) (done rest : List (ℕ × List ℕ))
    → done ++ rest ≡ record_puts channels chunks → new ≡ Some (file_after [] done) → StandsCut channels chunks old new
unfolding record_puts
puts_cut channels chunks old new [] rest split is = Empty is
puts_cut channels chunks old new (b ∷ done) rest split is =
    by (where_ends done rest (placed header_end sections) (last ∷ []) (tail_is b (0, header_section incomplete_header) (done ++ rest) _ split))
  where
    sections : List (List ℕ)
    sections = record_sections channels chunks

    last : ℕ × List ℕ
    last = (0, header_section (complete_header channels chunks))

    began : (ps : List (ℕ × List ℕ)) → ps ≡ done → file_after [] (b ∷ done) ≡ file_after [] ((0, header_section incomplete_header) ∷ ps)
    began ps same = ap (λ (qs : List (ℕ × List ℕ)). file_after [] qs) (ap (λ (c : ℕ × List ℕ). c ∷ done) (head_is b (0, header_section incomplete_header) (done ++ rest) _ split) ∙ ap (λ (qs : List (ℕ × List ℕ)). (0, header_section incomplete_header) ∷ qs) (sym same))

    by : Ends done rest (placed header_end sections) (last ∷ []) → StandsCut channels chunks old new
    by (ends_first behind inside) =
        let front = pieces_front header_end sections done behind inside in
        Front front.done front.later front.split (is ∙ ap Some (began (placed header_end front.done) front.front ∙ after_sections front.done))
    by (ends_second [] inside end) =
        Front sections [] (append-nil sections) (is ∙ ap Some (began (placed header_end sections) (sym (append-nil (placed header_end sections)) ∙ inside) ∙ after_sections sections))
    by (ends_second (p ∷ []) inside end) =
        Complete (is ∙ ap Some (began (placed header_end sections ++ last ∷ []) (ap (λ (c : ℕ × List ℕ). placed header_end sections ++ c ∷ []) (sym (head_is p last rest [] end)) ∙ inside) ∙ file_after-record channels chunks))
    by (ends_second (p ∷ q ∷ more) inside end) = absurd (omega (arith, ap length end, length-append more rest))

pub starved_leaves : (name : List ℕ) (channels : List Channel) (chunks : List (List BodyMessage)) (first last : List Write) (m n : Files)
    → AreOfOthers name first → AreOfOthers name last → StopsBefore (writes_among first name channels chunks last) (Some m) (Some n)
    → StandsCut channels chunks (get m name) (get n name)
starved_leaves name channels chunks first last m n of_first of_last stops =
    by (where_ends stops.before stops.later first (whole ++ last) stops.split)
  where
    whole : List Write
    whole = file_writes name (record_puts channels chunks)

    is : get n name ≡ get (after_writes stops.before m) name
    is = ap (λ (f : Option Files). get (unwrap_or f m) name) stops.left

    in_file : (more rest : List Write) → first ++ more ≡ stops.before → more ++ rest ≡ Create name ∷ puts_into name (record_puts channels chunks)
        → StandsCut channels chunks (get m name) (get n name)
    in_file [] rest before inside = Untouched (is ∙ ap (λ (ws : List Write). get (after_writes ws m) name) (sym before ∙ append-nil first) ∙ others_after name first m of_first)
    in_file (w ∷ more) rest before inside =
        let made : w ≡ Create name = head_is w (Create name) (more ++ rest) (puts_into name (record_puts channels chunks)) inside in
        let put = mapped_front (put_of name) (record_puts channels chunks) more rest (tail_is w (Create name) (more ++ rest) (puts_into name (record_puts channels chunks)) inside) in
        puts_cut channels chunks (get m name) (get n name) put.done put.rest put.split
        (is ∙ begun_file name first stops.before put.done m (ap (λ (ws : List Write). first ++ Create name ∷ ws) put.front ∙ ap (λ (x : Write). first ++ x ∷ more) (sym made) ∙ before))

    behind : (more : List Write) → first ++ more ≡ stops.before → Ends more stops.later whole last → StandsCut channels chunks (get m name) (get n name)
    behind more before (ends_first rest inside) = in_file more rest before inside
    behind more before (ends_second beyond inside end) =
        let done : after_writes stops.before m ≡ after_writes beyond (after_writes whole (after_writes first m)) =
        ap (λ (ws : List Write). after_writes ws m) (sym before ∙ ap (λ (ws : List Write). first ++ ws) (sym inside))
        ∙ after_writes-append first (whole ++ beyond) m ∙ after_writes-append whole beyond (after_writes first m) in
        Complete (is
        ∙ ap (λ (f : Files). get f name) done
        ∙ others_after name beyond (after_writes whole (after_writes first m)) (front_others name beyond stops.later (subst (AreOfOthers name) (sym end) of_last))
        ∙ ap (λ (f : Files). get f name) (after_record channels chunks (after_writes first m) name)
        ∙ get-inserted (after_writes first m) name (record_bytes channels chunks))

    by : Ends stops.before stops.later first (whole ++ last) → StandsCut channels chunks (get m name) (get n name)
    by (ends_first rest inside) =
        Untouched (is ∙ others_after name stops.before m (front_others name stops.before rest (subst (AreOfOthers name) (sym inside) of_first)))
    by (ends_second more inside end) = behind more inside (where_ends more stops.later whole last end)

-- What a get finds, and what it comes to.
use Rattle.std.proofs.Common.{◌≡◌, ℕ, suc, ◌+◌, ◌-◌, ◌<◌, ◌≤◌, List, [], length, map, Bool, true, false, cond, Ok, Option, Some, None, IsTrue, refl, sym, ap, subst, ◌∙◌, arith}
use Rattle.std.specs.Prelude.{◌==◌, ◌&&◌, ◌||◌, not, nat_lt, is_some, option_map, IfSome}
use Rattle.std.specs.Option.{option_map_or}
use Rattle.hd_dbd.specs.Types.{SegmentType, View}
use Rattle.hd_dbd.specs.declared.answer.Status.TheVariants.{Blank, GA, GK, GB, GE}
use Rattle.hd_dbd.specs.Hierarchy.{Database}
use Rattle.hd_dbd.specs.Segment.{Segment}
use Rattle.hd_dbd.specs.Paths.{row_at, level_at, path_of, end_of}
use Rattle.hd_dbd.specs.Positions.{Position, Place, at_start}
use Rattle.hd_dbd.specs.Calls.{bare}
use Rattle.hd_dbd.specs.Searches.{least_within}
use Rattle.hd_dbd.specs.Views.{Setting, may}
use Rattle.hd_dbd.specs.Letters.{gives_get}
use Rattle.hd_dbd.specs.Forest.{Forest}
use Rattle.hd_volume.specs.Volumes.{VolumeState}
use Rattle.hd_volume.specs.Calls.{IsRead}
use Rattle.hd_links.specs.Placed.{Placed, Holds}
use Rattle.hd_links.specs.Steps.{rows_of, address_at, path_at}
use Rattle.hd_image.specs.Records.{links_of}
use Rattle.hd_image.proofs.OneImage.{held-same}
use Rattle.hd_index.proofs.ChangeLemmas.{later-image}
use Rattle.hd_forest.specs.Rows.{IsOnRow}
use Rattle.hd_forest.proofs.Reading.{after-read, sound-before}
use Rattle.hd_calls.specs.declared.call.GetKind.{GetKind}
use Rattle.hd_calls.specs.declared.call.GetKind.TheVariants.{Unique, Next, NextInParent}
use Rattle.hd_calls.specs.Ssas.{Ssa, target_code}
use Rattle.hd_calls.specs.Satisfies.{satisfies, is_named}
use Rattle.hd_calls.specs.Gets.{search_start, search_end, behind_parent, crossing, get_status, get_missing, get_found, unheld, path_rows}
use Rattle.hd_calls.specs.NoLostUpdate.{is_done}
use Rattle.hd_calls.proofs.Searches.{least_some}
use Rattle.hd_calls.proofs.Fair.{satisfying_within}
use Rattle.hd_position.specs.Kept.{Kept, AreRowsOn, Ascend, path_passed, row_on}
use Rattle.hd_position.specs.Gets.{AreTaken}
use Rattle.hd_position.proofs.Rising.{row_on_map}
use Rattle.hd_calls.specs.Admits.{Descend, AreRowsOf}
use Rattle.std.proofs.lemmas.Bool.{ne_eqb, and_parts, and_from, eqb-true, cond-true, lt-ltb}
use Rattle.std.proofs.lemmas.List.{length-map}
use Rattle.hd_calls.proofs.SearchLevels.{path_length}
use Rattle.hd_calls.proofs.OnPaths.{Spans, on_path_of}
use Rattle.hd_get.specs.Searches.{LeadsWithin}
use Rattle.hd_get.specs.Starts.{IsKeptIn, AreNamed, BeginsUnique, LeadsToNext, LeadsToStart, StartsBelow}
use Rattle.hd_get.specs.Gets.{GetCall, IsPositionIn, HasPosition, answer_to, levels_taken}
use Rattle.hd_get.specs.Found.{satisfies_get, sought_by, LeadsToSought, IsBeginning, Begins, IsSought, status_between, goes_back}
use Rattle.hd_get.proofs.Starts.{parent_address}
use Rattle.hd_get.proofs.Turns.{here_from}
use Rattle.hd_get.proofs.Grounds.{held_rows}
use Rattle.hd_get.proofs.KeptRows.{last_passed, path_row_is, on_path_level}
use Rattle.hd_get.proofs.TakenLevels.{rows_taken, levels_ascend, satisfying_code}

-- ---- positions and volumes

-- a position in a volume is where it was after a call that read
pub position_told : {A : Type 0} {x : A} (d : Database) (u v : VolumeState) → IsRead {T = A} u (Ok x) v → (f : Forest Placed) (k : Kept) (q : Position) → IsPositionIn d u f k q → IsPositionIn d v f k q
position_told d u v read f k q at =
    let same = after-read d u v read at.sound in
    record {
      sound = same.sound;
      later = later-image u v same.image at.later;
      holds = held-same d u v same.image read.call.size read.call.sizes f at.holds;
      stands = at.stands;
    }

-- and before it
pub position_back : {A : Type 0} {x : A} (d : Database) (u v : VolumeState) → IsRead {T = A} u (Ok x) v → (f : Forest Placed) (k : Kept) (q : Position) → IsPositionIn d v f k q → IsPositionIn d u f k q
position_back d u v read f k q at =
    let sound = sound-before u v read at.sound in
    let same = after-read d u v read sound in
    record {
      sound = sound;
      later = later-image v u (sym same.image) at.later;
      holds = held-same d v u (sym same.image) (sym read.call.size) (sym read.call.sizes) f at.holds;
      stands = at.stands;
    }

pub position_kept : {A : Type 0} {x : A} (d : Database) (u v : VolumeState) → IsRead {T = A} u (Ok x) v → (k : Kept) → HasPosition d u k → HasPosition d v k
position_kept d u v read k has now = (let T = has (sound-before u v read now) in (T.0, T.1, position_told d u v read T.0 k T.1 T.2))

-- a position in a volume is one in its records
pub kept_in : (d : Database) (v : VolumeState) (f : Forest Placed) (k : Kept) (q : Position) → IsPositionIn d v f k q → IsKeptIn d v f k q
kept_in d v f k q at = record { sound = at.sound; at = record { holds = at.holds.records; stands = at.stands } }

-- a path that leads to a row in the records of one image does so in those of another with the same
pub leads_told : {A : Type 0} {x : A} (d : Database) (u v : VolumeState) → IsRead {T = A} u (Ok x) v → IsTrue u.is_sound → (f : Forest Placed) (parent end : ℕ) (path : List ℕ) (n : ℕ)
    → LeadsWithin d.types (links_of d.types u) f parent end path n → LeadsWithin d.types (links_of d.types v) f parent end path n
leads_told d u v read sound f parent end path n L =
    record { holds = subst (λ m. Holds d.types m f) (sym (after-read d u v read sound).links) L.holds; ends = L.ends; is = L.is }

-- where a get begins before a call that read it begins behind it
pub begins_told : {A : Type 0} {x : A} (d : Database) (u v : VolumeState) → IsRead {T = A} u (Ok x) v → (c : GetCall) (k : Kept) (start : Option (ℕ × List ℕ)) → Begins d u c k start → Begins d v c k start
begins_told d u v read c k start begins f q at =
    let back = position_back d u v read f k q at in
    let B = begins f q back in
    record { none = B.none; some = by start B.some back.sound }
  where
    by : (o : Option (ℕ × List ℕ)) → IfSome o (λ s. LeadsToSought d u f c q s.0 s.1) → IsTrue u.is_sound → IfSome o (λ s. LeadsToSought d v f c q s.0 s.1)
    by None e sound = tt
    by (Some s) L sound = record { number = L.number; same = L.same; leads = leads_told d u v read sound f s.0 _ s.1 L.number L.leads }

-- and what it seeks behind it it sought before
pub sought_before : {A : Type 0} {x : A} (d : Database) (u v : VolumeState) → IsRead {T = A} u (Ok x) v → (c : GetCall) (k : Kept) (path : Option (List ℕ)) → IsSought d v c k path → IsSought d u c k path
sought_before d u v read c k path sought f q at = sought f q (position_told d u v read f k q at)

-- ---- where a get begins

-- where there are SSAs, a row satisfies a call where they name it and it may be read
pub satisfies_named : (s : Setting) (rows : List Segment) (ssas : List Ssa) (i : ℕ) → 0 < length ssas
    → satisfies s rows ssas i ≡ (is_named s.types rows ssas i && may s gives_get (row_at rows i).code)
satisfies_named s rows ssas i some =
    ap (λ (b : Bool). (b || is_named s.types rows ssas i) && may s gives_get (row_at rows i).code) (ne_eqb (length ssas) 0 (λ z. omega arith))

module _ (d : Database) (v : VolumeState) (f : Forest Placed) (k : Kept) (q : Position) (at : IsPositionIn d v f k q) (pcb : View) (hold : Bool) (ssas : List Ssa) where
  abbrev call_of : GetKind → GetCall
  call_of kind = record { pcb = pcb; kind = kind; hold = hold; ssas = ssas }

  something : (start : ℕ × List ℕ) (o : Option ℕ) → Some start ≡ None → o ≡ None
  something start o z = cc

  -- a row that satisfies a GU with arguments is named
  satisfying_named : AreNamed (satisfies_get (call_of Unique) d.types (rows_of f)) d.types (rows_of f) ssas
  satisfying_named j some passes = (and_parts (is_named d.types (rows_of f) ssas j) _ (sym (satisfies_named (record { types = d.types; pcb = pcb }) (rows_of f) ssas j some) ∙ passes)).0

  pub unique_begins : (path : List ℕ) (told : Bool) → BeginsUnique d v ssas path told → IsBeginning d v f (record { pcb = pcb; kind = Unique; hold = hold; ssas = ssas }) q (Some (0, path))
  unique_begins path told begins =
      let M = begins f (satisfies_get (call_of Unique) d.types (rows_of f)) at.sound at.holds satisfying_named in
      record {
        none = something (0, path) (sought_by (call_of Unique) d.types (rows_of f) q);
        some = record { number = M.number; same = M.same; leads = M.leads };
      }

  -- where the row is known to be named, and its type may be read, it is the one
  pub unique_found : (path : List ℕ) (told : Bool) → BeginsUnique d v ssas path told → told ≡ true → 0 < length ssas
      → may (record { types = d.types; pcb = pcb }) gives_get (target_code ssas) ≡ true
      → Some path ≡ option_map (λ i. path_at d.types f i) (sought_by (call_of Unique) d.types (rows_of f) q)
  unique_found path told begins told_ some reads =
      let M = begins f (satisfies_get (call_of Unique) d.types (rows_of f)) at.sound at.holds satisfying_named in
      let N = M.named told_ in
      let code : (row_at (rows_of f) M.number).code ≡ target_code ssas
      = eqb-true (row_at (rows_of f) M.number).code (target_code ssas) (and_parts ((row_at (rows_of f) M.number).code == target_code ssas) _ N.1).0 in
      let passes : satisfies_get (call_of Unique) d.types (rows_of f) M.number ≡ true
      = satisfies_named (record { types = d.types; pcb = pcb }) (rows_of f) ssas M.number some
      ∙ and_from _ _ N.1 (ap (may (record { types = d.types; pcb = pcb }) gives_get) code ∙ reads) in
      ap (λ (p : List ℕ). Some p) (M.leads.is ∙ cond-true (nat_lt M.number (length (rows_of f))) (path_at d.types f M.number) [] (lt-ltb M.number (length (rows_of f)) N.0))
      ∙ sym (ap (option_map (λ i. path_at d.types f i))
      (M.same ∙ here_from (satisfies_get (call_of Unique) d.types (rows_of f)) M.number M.number (length (rows_of f)) (omega arith) N.0 (λ j a b. absurd (omega arith)) passes))

  pub next_begins : (path : List ℕ) → LeadsToNext d v ssas k path → IsBeginning d v f (record { pcb = pcb; kind = Next; hold = hold; ssas = ssas }) q (Some (0, path))
  next_begins path leads = record {
    none = something (0, path) (sought_by (call_of Next) d.types (rows_of f) q);
    some = record { number = search_start d.types (rows_of f) q Next ssas; same = refl; leads = leads f q (kept_in d v f k q at) };
  }

  pub below_begins : (start : Option (ℕ × List ℕ)) → StartsBelow d v ssas k start → IsBeginning d v f (record { pcb = pcb; kind = NextInParent; hold = hold; ssas = ssas }) q start
  below_begins start below =
      let B = below f q (kept_in d v f k q at) in
      record { none = λ e. nothing q.parent refl (sym B.parent ∙ ap (λ (o : Option (ℕ × List ℕ)). is_some o) e); some = leads start B.leads }
    where
      test : ℕ → Bool
      test = satisfies_get (call_of NextInParent) d.types (rows_of f)

      nothing : (o : Option ℕ) → q.parent ≡ o → is_some q.parent ≡ false → sought_by (call_of NextInParent) d.types (rows_of f) q ≡ None
      nothing None e none =
          let from : ℕ = search_start d.types (rows_of f) q NextInParent ssas in
          let end : search_end d.types (rows_of f) q NextInParent ≡ 0 = ap (λ (o : Option ℕ). option_map_or (λ q. end_of d.types (rows_of f) q) o 0) e in
          let size : search_end d.types (rows_of f) q NextInParent - from ≡ 0 = omega arith in
          ap (λ n. least_within test n from) size
      nothing (Some p) e none = absurd (let z : is_some (Some p) ≡ false = ap (λ (o : Option ℕ). is_some o) (sym e) ∙ none in cc)

      leads : (o : Option (ℕ × List ℕ)) → IfSome o (λ s. LeadsToStart NextInParent d v ssas f q s.0 s.1) → IfSome o (λ s. LeadsToSought d v f (call_of NextInParent) q s.0 s.1)
      leads None p = tt
      leads (Some s) p = record { number = search_start d.types (rows_of f) q NextInParent ssas; same = refl; leads = p }

-- ---- the row found

-- the row of a path that was found
pub path_found : (types : List SegmentType) (f : Forest Placed) (path : List ℕ) (o : Option ℕ) → Some path ≡ option_map (λ j. path_at types f j) o → (i : ℕ) × (o ≡ Some i) × (path ≡ path_at types f i)
path_found types f path None e = cc
path_found types f path (Some i) e = (i, refl, (let same : path ≡ path_at types f i = cc in same))

pub none_found : (types : List SegmentType) (f : Forest Placed) (o : Option ℕ) → None ≡ option_map (λ j. path_at types f j) o → o ≡ None
none_found types f None e = refl
none_found types f (Some i) e = cc

-- A row that a get seeks satisfies it, is a row, and lies where it looks.
pub record IsFoundBy (c : GetCall) (types : List SegmentType) (rows : List Segment) (q : Position) (i : ℕ) : Type 0 where
  pub from : search_start types rows q c.kind c.ssas ≤ i
  pub to : i < search_end types rows q c.kind
  pub passes : satisfies (record { types = types; pcb = c.pcb }) rows c.ssas i ≡ true
  pub within : i < length rows

pub found_by : (c : GetCall) (types : List SegmentType) (rows : List Segment) (q : Position) (i : ℕ) → sought_by c types rows q ≡ Some i → IsFoundBy c types rows q i
found_by c types rows q i is =
    let s : Setting = record { types = types; pcb = c.pcb } in
    let a : ℕ = search_start types rows q c.kind c.ssas in
    let b : ℕ = search_end types rows q c.kind in
    let L = least_some (satisfies s rows c.ssas) (b - a) a i is in
    let low : a ≤ i = L.0 in
    let high : i < a + (b - a) = L.1 in
    record { from = low; to = omega arith; passes = L.2; within = satisfying_within s rows c.ssas i L.2 }

-- what GNP finds is below the parentage row, which so stays on the path
module _ (d : Database) (v : VolumeState) (f : Forest Placed) (k : Kept) (q : Position) (at : IsPositionIn d v f k q) (c : GetCall) (i : ℕ) (found : IsFoundBy c d.types (rows_of f) q i) where
  over : AreRowsOf d.types (rows_of f)
  over = held_rows d v f at.holds.volume at.holds.records

  pub keeps_parent : c.kind ≡ NextInParent → (path : List ℕ) → path ≡ path_at d.types f i → row_on path k.parent ≡ row_on k.path k.parent
  keeps_parent kind path is = by q.parent refl
    where
      low : search_start d.types (rows_of f) q NextInParent c.ssas ≤ i
      low = subst (λ g. search_start d.types (rows_of f) q g c.ssas ≤ i) kind found.from

      high : i < search_end d.types (rows_of f) q NextInParent
      high = subst (λ g. i < search_end d.types (rows_of f) q g) kind found.to

      by : (o : Option ℕ) → q.parent ≡ o → row_on path k.parent ≡ row_on k.path k.parent
      by None e = absurd (let z : search_end d.types (rows_of f) q NextInParent ≡ 0 = ap (λ (o : Option ℕ). option_map_or (λ q. end_of d.types (rows_of f) q) o 0) e in let h = high in omega arith)
      by (Some p) e =
          let behind : behind_parent q ≡ p + 1 = ap (λ (o : Option ℕ). option_map_or (λ q. q + 1) o 0) e in
          let end : search_end d.types (rows_of f) q NextInParent ≡ end_of d.types (rows_of f) p = ap (λ (o : Option ℕ). option_map_or (λ r. end_of d.types (rows_of f) r) o 0) e in
          let l : search_start d.types (rows_of f) q NextInParent c.ssas ≤ i = low in
          let h : i < search_end d.types (rows_of f) q NextInParent = high in
          let spans : Spans d.types (rows_of f) p i = record { from = omega arith; to = omega arith } in
          let on : row_on (path_passed d.types (rows_of f) q.passed) k.parent ≡ Some p = sym at.stands.parent ∙ e in
          let M = last_passed d.types (rows_of f) q.passed k.parent p on in
          let few : q.passed ≡ suc M.0 = M.1 in
          let most : q.passed ≤ length (rows_of f) = at.stands.within in
          let P = path_row_is d.types (rows_of f) over M.0 k.parent p (omega arith) (subst (λ n. row_on (path_passed d.types (rows_of f) n) k.parent ≡ Some p) M.1 on) in
          let there : row_on (path_of d.types (rows_of f) i) (level_at d.types (rows_of f) p) ≡ Some p
          = (on_path_level d.types (rows_of f) over i (row_at (rows_of f) p).code p found.within
          (on_path_of d.types (rows_of f) (row_at (rows_of f) p).code i p found.within spans refl)).0 in
          ap (λ (xs : List ℕ). row_on xs k.parent) is
          ∙ row_on_map (λ j. address_at f j) (path_of d.types (rows_of f) i) k.parent
          ∙ ap (option_map (λ j. address_at f j)) (ap (row_on (path_of d.types (rows_of f) i)) (sym P.level) ∙ there ∙ sym e)
          ∙ sym (parent_address d.types f k q at.stands)

  -- the rows that it takes are those of the levels
  pub taken_are : (descend : Descend d.types None c.ssas) (path levels : List ℕ) → IsOnRow d.types (links_of d.types v) f path i
      → levels ≡ cond c.hold (levels_taken d.types c.ssas (length path)) []
      → AreTaken d.types f path levels i c.hold (path_rows d.types (rows_of f) c.ssas i)
  taken_are descend path levels on is = by c.hold is
    where
      size : length path ≡ level_at d.types (rows_of f) i
      size = ap (λ (xs : List ℕ). length xs) on.is ∙ length-map (path_of d.types (rows_of f) i) (λ j. address_at f j) ∙ path_length d.types (rows_of f) over i on.within

      code : 0 < length c.ssas → (row_at (rows_of f) i).code ≡ target_code c.ssas
      code some = satisfying_code (record { types = d.types; pcb = c.pcb }) (rows_of f) c.ssas i found.passes some

      by : (b : Bool) → levels ≡ cond b (levels_taken d.types c.ssas (length path)) [] → AreTaken d.types f path levels i b (path_rows d.types (rows_of f) c.ssas i)
      by false e = record {
        rows = ap (λ (ls : List ℕ). map (λ l. row_on (path_of d.types (rows_of f) i) l) ls) (sym e);
        ascend = subst (Ascend 0 (length path)) (sym e) tt;
      }
      by true e =
          let own : levels ≡ levels_taken d.types c.ssas (level_at d.types (rows_of f) i) = e ∙ ap (levels_taken d.types c.ssas) size in
          record {
            rows = subst (λ (ls : List ℕ). AreRowsOn (path_of d.types (rows_of f) i) ls (path_rows d.types (rows_of f) c.ssas i)) (sym own)
                (rows_taken d.types (rows_of f) over i on.within c.ssas descend code);
            ascend = subst (λ n. Ascend 0 n levels) (sym size)
                (subst (Ascend 0 (level_at d.types (rows_of f) i)) (sym own) (levels_ascend d.types (rows_of f) over i on.within c.ssas descend code));
          }

-- ---- the answer

-- the status by the types of the rows before and after
pub status_is : (types : List SegmentType) (rows : List Segment) (q : Position) (kind : GetKind) (ssas : List Ssa) (i : ℕ)
    → get_status types rows q kind ssas i ≡ status_between kind ssas q.last (Some (record { level = level_at types rows i; code = (row_at rows i).code }))
status_is types rows q Unique ssas i = refl
status_is types rows q Next ssas i = refl
status_is types rows q NextInParent ssas i = refl

-- it tells of a row
crossing_done : (last : Option Place) (level code : ℕ) → is_done (crossing last level code) ≡ true
crossing_done None level code = refl
crossing_done (Some p) level code = by (nat_lt level p.level) (level == p.level && not (code == p.code))
  where
    by : (a b : Bool) → is_done (cond a GA (cond b GK Blank)) ≡ true
    by true b = refl
    by false true = refl
    by false false = refl

between_done : (last now : Option Place) (b : Bool) → is_done (cond b (option_map_or (λ p. crossing last p.level p.code) now Blank) Blank) ≡ true
between_done last None true = refl
between_done last (Some p) true = crossing_done last p.level p.code
between_done last now false = refl

pub status_done : (kind : GetKind) (ssas : List Ssa) (last now : Option Place) → is_done (status_between kind ssas last now) ≡ true
status_done Unique ssas last now = refl
status_done Next ssas last now = between_done last now (length ssas == 0)
status_done NextInParent ssas last now = between_done last now (length ssas == 0)

-- what a get answers by what it finds
pub answer_found : (c : GetCall) (types : List SegmentType) (rows : List Segment) (q : Position) (i : ℕ) → sought_by c types rows q ≡ Some i
    → answer_to c types rows q ≡ get_found (record { types = types; pcb = c.pcb }) rows q c.kind c.hold c.ssas i
answer_found c types rows q i is =
    ap (λ (o : Option ℕ). option_map_or (λ i. get_found (record { types = types; pcb = c.pcb }) rows q c.kind c.hold c.ssas i) o (get_missing q c.kind c.ssas)) is

pub answer_missing : (c : GetCall) (types : List SegmentType) (rows : List Segment) (q : Position) → sought_by c types rows q ≡ None → answer_to c types rows q ≡ get_missing q c.kind c.ssas
answer_missing c types rows q is =
    ap (λ (o : Option ℕ). option_map_or (λ i. get_found (record { types = types; pcb = c.pcb }) rows q c.kind c.hold c.ssas i) o (get_missing q c.kind c.ssas)) is

-- and where it finds none
pub missing_is : (q : Position) (kind : GetKind) (ssas : List Ssa) → get_missing q kind ssas ≡ cond (goes_back kind ssas) (bare GB, at_start) (bare GE, unheld q)
missing_is q Unique ssas = refl
missing_is q Next ssas = refl
missing_is q NextInParent ssas = refl

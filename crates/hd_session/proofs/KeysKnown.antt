-- The keys of the rows above that are known, as they are added, kept and noted.
use Rattle.std.proofs.Common.{◌≡◌, inl, inr, ℕ, ◌+◌, ◌-◌, ◌<◌, ◌≤◌, List, [], ◌∷◌, ◌++◌, length, take, drop, Bool, true, false, Ok, Err, Some, IsTrue, arith, refl, sym, ap, ap₂, subst, ◌∙◌}
use Rattle.std.specs.Prelude.{◌==◌, ◌&&◌, ◌||◌, nat_lt, cond, flat_map, Result, IfOk, OnOk}
use Rattle.std.specs.List.{starts_with}
use Rattle.std.proofs.Math.Seq.{take-append_seam, take-length}
use Rattle.std.proofs.lemmas.List.{length-append}
use Rattle.std.proofs.lemmas.Bool.{and_parts, lt-ltb, ltb-true, eqb-true}
use Rattle.std.proofs.lemmas.Bool.Decides.{Decides-eqb}
use Rattle.std.proofs.lemmas.Slice.Eq.{starts_is}
use Rattle.hd_dbd.specs.Types.{SegmentType}
use Rattle.hd_dbd.specs.Hierarchy.{Database}
use Rattle.hd_dbd.specs.Rows.{key_of}
use Rattle.hd_dbd.specs.Calls.{Reply}
use Rattle.hd_dbd.specs.declared.answer.Refused.{Refused}
use Rattle.hd_dbd.specs.declared.answer.Status.{Status}
use Rattle.hd_volume.specs.Volumes.{VolumeState}
use Rattle.hd_volume.specs.Calls.{IsRead}
use Rattle.hd_links.specs.Links.{Links, segment_at}
use Rattle.hd_image.specs.Records.{links_of}
use Rattle.hd_forest.specs.declared.walk.Ahead.{Ahead}
use Rattle.hd_forest.specs.Rows.{IsOnRow}
use Rattle.hd_forest.specs.Walks.{IsAhead, tip}
use Rattle.hd_forest.proofs.Reading.{after-read, links-kept}
use Rattle.hd_session.specs.Buffer.{Buffer}
use Rattle.hd_session.specs.Giving.{IsEmpty, IsGiven, IsCodeOn, HasAdded, is_among, bytes_at, with_path}
use Rattle.hd_session.specs.LastGiven.{Given, nothing_given, AreKeysIn, IsSeenIn, AreKeysOf, IsJustBelow, AreNoted, is_begun_by, are_below}

-- ---- what is added of them

-- no level at or above one is among those below it
none_above : (levels : List ℕ) (level k : ℕ) → are_below levels level ≡ true → k ≤ level → is_among levels k ≡ false
none_above [] level k below high = refl
none_above (l ∷ ls) level k below high =
    let both = and_parts (nat_lt level l) (are_below ls level) below in
    by (l == k) refl (ltb-true level l both.0) (none_above ls level k both.1 high)
  where
    by : (b : Bool) → (l == k) ≡ b → level < l → is_among ls k ≡ false → (b || is_among ls k) ≡ false
    by true e low rest = absurd (let same : l ≡ k = eqb-true l k e in omega arith)
    by false e low rest = rest

-- nothing is given of rows that are above all the levels
none_given_above : (bytes : ℕ → List ℕ) (levels : List ℕ) (level l : ℕ) (path : List ℕ) → are_below levels level ≡ true → l + length path ≤ level + 1 → bytes_at bytes levels l path ≡ []
none_given_above bytes levels level l [] below few = refl
none_given_above bytes levels level l (a ∷ path) below few =
    ap₂ (λ (b : Bool) (r : List ℕ). cond b (bytes a) [] ++ r) (none_above levels level l below (omega arith)) (none_given_above bytes levels level (l + 1) path below (omega arith))

-- a path that is begun by rows has these first
pub begun : (path : List ℕ) (above : Given) → is_begun_by path above ≡ true → (length above.path < length path) × (take (length above.path) path ≡ above.path)
begun path above is =
    let both = and_parts (nat_lt (length above.path) (length path)) (starts_with (λ a b. a == b) path above.path) is in
    let first : path ≡ above.path ++ drop (length above.path) path
    = (starts_is Decides-eqb path above.path (starts_with (λ a b. a == b) path above.path) refl).0 both.1 in (
      ltb-true (length above.path) (length path) both.0,
      ap (take (length above.path)) first ∙ take-append_seam above.path (drop (length above.path) path),
    )

-- a path that goes from there to a row of the level below the rows leads just below them
pub just_below : (path : List ℕ) (above : Given) (level a : ℕ) → level ≡ length above.path + 1 → is_begun_by path above ≡ true → IsJustBelow (take (level - 1) path ++ a ∷ []) above
just_below path above level a at is =
    let rows : List ℕ = above.path in
    let first : take (level - 1) path ++ a ∷ [] ≡ rows ++ a ∷ []
    = ap (λ n. take n path ++ a ∷ []) (let e : level - 1 ≡ length rows = omega (arith, at) in e) ∙ ap (λ (xs : List ℕ). xs ++ a ∷ []) (begun path above is).1 in
    let long : length (rows ++ a ∷ []) ≡ length rows + 1 = length-append rows (a ∷ []) in
    let starts : starts_with (λ a b. a == b) (rows ++ a ∷ []) rows ≡ true
    = (starts_is Decides-eqb (rows ++ a ∷ []) rows (starts_with (λ a b. a == b) (rows ++ a ∷ []) rows) refl).1 (a ∷ []) refl in
    let lower : nat_lt (length rows) (length (rows ++ a ∷ [])) ≡ true = lt-ltb (length rows) (length (rows ++ a ∷ [])) (omega (arith, long)) in
    subst (λ (xs : List ℕ). IsJustBelow xs above) (sym first) (long, ap₂ (λ (a b : Bool). a && b) lower starts)

-- the keys that are known are all that the rows add
pub known_added : (types : List SegmentType) (m : Links) (levels path : List ℕ) (room : ℕ) (above : Given) → is_begun_by path above ≡ true → are_below levels (length above.path) ≡ true
    → AreKeysIn types m above → record { key = above.keys; area = []; room = room } ≡ with_path types m levels room (take (length above.path) path)
known_added types m levels path room above is below known =
    ap₂ (λ (k b : List ℕ). record { key = k; area = b; room = room }) known (sym (none_given_above m.bytes levels (length above.path) 1 above.path below (omega arith)))
    ∙ ap (with_path types m levels room) (sym (begun path above is).1)

-- an empty area has added no row
pub none_added : (types : List SegmentType) (m : Links) (levels path : List ℕ) (b : Buffer) → IsEmpty b → b ≡ with_path types m levels b.room (take 0 path)
none_added types m levels path b empty = ap₂ (λ (k a : List ℕ). record { key = k; area = a; room = b.room }) empty.0 empty.1

-- ---- what reading leaves of them

module _ {A : Type 0} {x : A} (d : Database) (u v : VolumeState) (read : IsRead {T = A} u (Ok x) v) where
  -- the keys are still those of the rows
  pub keys_kept : (above : Given) → AreKeysOf d u above → AreKeysOf d v above
  keys_kept above known = links-kept d (λ m. AreKeysIn d.types m above × IsSeenIn d.types m above) u v read known

  -- and a segment names what it named ahead of it
  pub ahead_kept : (a : ℕ) (ahead : Ahead) → (IsTrue u.is_sound → IsAhead d.types (links_of d.types u) a ahead) → IsTrue v.is_sound → IsAhead d.types (links_of d.types v) a ahead
  ahead_kept a ahead known = links-kept d (λ m. IsAhead d.types m a ahead) u v read known

  -- what is given behind the call is given before it
  pub given_before : (path levels : List ℕ) (status : Status) (reply : Reply) → IsGiven d v path levels status reply → IsGiven d u path levels status reply
  given_before path levels status reply given f i taken pcb at =
      let same = after-read d u v read at.sound in
      given f i taken pcb (record { sound = same.sound; row = subst (λ (m : Links). IsOnRow d.types m f path i) (sym same.links) at.row; rows = at.rows; ascend = at.ascend })

  -- and the buffer has what it had
  pub added_kept : (path levels : List ℕ) (n : ℕ) (b : Buffer) → HasAdded d u path levels n b → HasAdded d v path levels n b
  added_kept path levels n b has = links-kept d (λ m. b ≡ with_path d.types m levels b.room (take n path)) u v read has

  pub added_before : (path levels : List ℕ) (n : ℕ) (b : Buffer) → HasAdded d v path levels n b → HasAdded d u path levels n b
  added_before path levels n b has sound = (let same = after-read d u v read sound in subst (λ (m : Links). b ≡ with_path d.types m levels b.room (take n path)) same.links (has same.sound))

  -- a code is that of the row that it was of
  pub code_before : (path : List ℕ) (n code : ℕ) → IsCodeOn d v path n code → IsCodeOn d u path n code
  code_before path n code is sound = (let same = after-read d u v read sound in subst (λ (m : Links). code ≡ m.code (tip (take n path))) same.links (is same.sound))

-- all rows of a path
pub added_all : (d : Database) (v : VolumeState) (path levels : List ℕ) (b : Buffer) → HasAdded d v path levels (length path) b → IsTrue v.is_sound → b ≡ with_path d.types (links_of d.types v) levels b.room path
added_all d v path levels b has sound = has sound ∙ ap (with_path d.types (links_of d.types v) levels b.room) (take-length path)

-- ---- what is noted

-- where no row is known, all that is known is so
pub nothing_known : (d : Database) (v : VolumeState) (above : Given) → above ≡ nothing_given → AreKeysOf d v above
nothing_known d v above none sound = subst (λ (x : Given). AreKeysIn d.types (links_of d.types v) x × IsSeenIn d.types (links_of d.types v) x) (sym none) (refl, tt)

-- what is noted of the rows above is known
pub noted : (d : Database) (v : VolumeState) (path levels : List ℕ) (n : ℕ) (b : Buffer) (above : Given) → n ≡ length path - 1 → HasAdded d v path levels n b → AreNoted path b.key above → AreKeysOf d v above
noted d v path levels n b above last has (inl none) sound = nothing_known d v above none sound
noted d v path levels n b above last has (inr some) sound =
    subst (λ (x : Given). AreKeysIn d.types (links_of d.types v) x × IsSeenIn d.types (links_of d.types v) x) (sym some)
    (ap (λ (x : Buffer). x.key) (has sound) ∙ ap (λ k. flat_map (λ a. key_of d.types (segment_at (links_of d.types v) a)) (take k path)) last, tt)

-- what a segment was seen to name ahead of it is known too
pub seen : (d : Database) (v : VolumeState) (old new : Given) (a : ℕ) (ahead : Ahead) → new ≡ record old { seen = Some (a, ahead) } → AreKeysOf d v old
    → (IsTrue v.is_sound → IsAhead d.types (links_of d.types v) a ahead) → AreKeysOf d v new
seen d v old new a ahead is known named sound =
    subst (λ (x : Given). AreKeysIn d.types (links_of d.types v) x × IsSeenIn d.types (links_of d.types v) x) (sym is) ((known sound).0, named sound)

-- where a call is answered, what holds of all answers holds of its own
pub if_ok_any : {A : Type 0} {P : A → Type 0} (r : Result A Refused) → ((x : A) → P x) → IfOk r P
if_ok_any (Ok x) all = all x
if_ok_any (Err e) all = tt

-- where a call that reads is done, what held of it before the call holds behind it
pub if_done : {A : Type 0} {P Q : Type 0} {u w : VolumeState} (r : Result A Refused) → IsRead {T = A} u r w → OnOk r P → ((x : A) → IsRead {T = A} u (Ok x) w → P → Q) → OnOk r Q
if_done (Ok x) read p go = go x read p
if_done (Err e) read p go = tt

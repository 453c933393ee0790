use Rattle.std.proofs.Common.{◌≡◌, ◌≢◌, ℕ, ◌<◌, ◌++◌, ◌∷◌, List, [], length, Bool, true, Ok, Option, Some, None, refl, sym, ap, subst, ◌∙◌, arith, inl, inr}
use Rattle.std.specs.Option.{option_map_or}
use Rattle.std.proofs.lemmas.Bool.{cases_lt}
use Rattle.hd_dbd.specs.Hierarchy.{Database}
use Rattle.hd_dbd.specs.Segment.{Segment}
use Rattle.hd_dbd.specs.Rows.{key_of}
use Rattle.hd_dbd.specs.Forest.{Forest}
use Rattle.hd_dbd.specs.Paths.{row_at}
use Rattle.hd_volume.specs.Volumes.{VolumeState}
use Rattle.hd_volume.proofs.CallSteps.{read-ok, reads-join}
use Rattle.hd_links.specs.Links.{IsSegment, is_child_type, segment_at}
use Rattle.hd_links.specs.Placed.{Placed}
use Rattle.hd_links.specs.Pointers.{IsInChain}
use Rattle.hd_links.specs.Steps.{rows_of, address_at, path_at}
use Rattle.hd_get.specs.Asking.{address_from}
use Rattle.hd_image.specs.Records.{links_of, IsVolumeOf}
use Rattle.hd_forest.specs.Walks.{tip}
use Rattle.hd_forest.specs.Rows.{IsOnRow}
use Rattle.hd_forest.specs.Twins.{IsTwinFrom}
use Rattle.hd_forest.specs.TwinPlaces.{twin_places}
use Rattle.hd_forest.proofs.Reading.{after-read, sound-before, links-kept, volume-kept}
use Rattle.hd_forest.proofs.LastChildren.{last-chained}
use Rattle.hd_calls.specs.Gets.{first_child}
use Rattle.hd_get.proofs.Grounds.{grounds, tip_is, tip_there, tip_code, short_path_by}
use Rattle.hd_get.proofs.Climbs.{child_same, child_some}
use Rattle.hd_get.proofs.Spans.{child_is}
use Rattle.hd_get.proofs.TwinsFrom.{from_row}
use Rattle.hd_get.proofs.Descents.{from_parts, child_from}
use Rattle.hd_get.proofs.by_key.go_below.Goals as goal

nothing : (e : Bool) → None ≡ Some e → ⊥
nothing e is = cc

pub returns-in_default-clause-value : goal.returns-in_default-clause-value
returns-in_default-clause-value g c f i at = record { below = λ e is. absurd (nothing e is); stays = λ e. refl }

pub first_and_last_child-requires-clause-there : goal.first_and_last_child-requires-clause-there
first_and_last_child-requires-clause-there g c sound =
    let d = c.args.dbd.now in
    let u = c.args.volume.now in
    let T = c.requires.there sound in
    (subst (IsSegment (links_of d.types u)) (sym c.tip_of.ensures)
    (tip_there d.types (links_of d.types u) T.0 (grounds d u T.0 (c.requires.of sound) T.2.holds) c.args.path.now T.1 T.2)).here

some : (n : ℕ) → n ≢ 0 → 0 < n
some n ne = elim (cases_lt 0 n) [ inl w ↦ w | inr w ↦ absurd (ne (let z : n ≡ 0 = omega arith in z)) ]

-- The first child that was read is a row's.
record IsFirst (d : Database) (v : VolumeState) (f : Forest Placed) (i code child : ℕ) : Type 0 where
  first : ℕ
  is_first : first_child d.types (rows_of f) code i ≡ Some first
  within : first < length (rows_of f)
  at : child ≡ address_at f first
  there : IsSegment (links_of d.types v) child
  code_is : (links_of d.types v).code child ≡ code

found : (d : Database) (v : VolumeState) → IsVolumeOf d v → (f : Forest Placed) (path : List ℕ) (i : ℕ) → IsOnRow d.types (links_of d.types v) f path i → (code child tip_ : ℕ) → tip_ ≡ tip path
    → child ≡ (links_of d.types v).first_child tip_ code → 0 < child → is_child_type d.types ((links_of d.types v).code (tip path)) code ≡ true → IsFirst d v f i code child
found d v of f path i on code child tip_ is read there typed_ =
    let m = links_of d.types v in
    let G = grounds d v f of on.holds in
    let own : is_child_type d.types (row_at (rows_of f) i).code code ≡ true = subst (λ c. is_child_type d.types c code ≡ true) (tip_code d.types m f G path i on) typed_ in
    let at : child ≡ m.first_child (address_at f i) code = read ∙ ap (λ a. m.first_child a code) (is ∙ tip_is d.types m f G path i on) in
    let T = child_some d.types m f i code on.within (G.steps i on.within) own (subst (λ x. 0 < x) at there) in
    let C = child_is d.types (rows_of f) i code T.0 on.within T.1 in
    let named : child ≡ address_at f T.0
    = at ∙ (G.steps i on.within).first_child code own ∙ ap (λ (o : Option ℕ). option_map_or (λ x. address_at f x) o 0) (child_same d.types m f i code on.within ∙ T.1) in
    record {
      first = T.0;
      is_first = T.1;
      within = C.within;
      at = named;
      there = subst (IsSegment m) (sym named) (G.addressed.there T.0 C.within);
      code_is = ap m.code named ∙ ap (λ (r : Segment). r.code) (G.addressed.same T.0 C.within) ∙ C.code_is;
    }

pub returns-then-ends-eq0-clause-value : goal.returns-then-ends-eq0-clause-value
returns-then-ends-eq0-clause-value g c f i at = record { below = λ e is. absurd (nothing e is); stays = λ e. refl }

pub twins_around_between-requires-clause-of : goal.twins_around_between-requires-clause-of
twins_around_between-requires-clause-of g c = volume-kept c.args.dbd.now c.args.volume.now c.first_and_last_child.new.volume c.in_ok-ends.ensures.read c.requires.of

pub twins_around_between-requires-clause-holds : goal.twins_around_between-requires-clause-holds
twins_around_between-requires-clause-holds g c now =
    let d = c.args.dbd.now in
    let u = c.args.volume.now in
    let sound = sound-before u c.first_and_last_child.new.volume c.in_ok-ends.ensures.read now in
    let T = c.requires.there sound in
    (after-read d u c.first_and_last_child.new.volume c.in_ok-ends.ensures.read sound).forest (T.0, T.2.holds)

pub twins_around_between-requires-clause-there : goal.twins_around_between-requires-clause-there
twins_around_between-requires-clause-there g c =
    links-kept c.args.dbd.now (λ m. IsSegment m c.in_ok-ends.ends.first) c.args.volume.now c.first_and_last_child.new.volume c.in_ok-ends.ensures.read
    (λ sound. (let T = c.requires.there sound in (found c.args.dbd.now c.args.volume.now (c.requires.of sound) T.0 c.args.path.now T.1 T.2 c.args.code c.in_ok-ends.ends.first c.tip_of.result c.tip_of.ensures (c.in_ok-ends.ensures.first sound)
    (some c.in_ok-ends.ends.first c.if-ends-eq0.false) (c.requires.typed sound)).there))

pub twins_around_between-requires-clause-places : goal.twins_around_between-requires-clause-places
twins_around_between-requires-clause-places g c =
    links-kept c.args.dbd.now (λ m. twin_places c.args.dbd.now.types (m.code c.in_ok-ends.ends.first) ≡ Some c.in-Some.places) c.args.volume.now c.first_and_last_child.new.volume c.in_ok-ends.ensures.read
    (λ sound. (let T = c.requires.there sound in ap (twin_places c.args.dbd.now.types) (found c.args.dbd.now c.args.volume.now (c.requires.of sound) T.0 c.args.path.now T.1 T.2 c.args.code c.in_ok-ends.ends.first c.tip_of.result c.tip_of.ensures (c.in_ok-ends.ensures.first sound)
    (some c.in_ok-ends.ends.first c.if-ends-eq0.false) (c.requires.typed sound)).code_is ∙ sym c.twin_places.ensures ∙ c.in-Some.is))

pub twins_around_between-requires-clause-last : goal.twins_around_between-requires-clause-last
twins_around_between-requires-clause-last g c =
    let d = c.args.dbd.now in
    let u = c.args.volume.now in
    let ends = c.in_ok-ends.ends in
    links-kept d (λ m. 0 < ends.last → IsInChain m ends.first ends.last) u c.first_and_last_child.new.volume c.in_ok-ends.ensures.read
    (λ sound some.
    (let m = links_of d.types u in
    let of = c.requires.of sound in
    let T = c.requires.there sound in
    let here = (subst (IsSegment m) (sym c.tip_of.ensures) (tip_there d.types m T.0 (grounds d u T.0 of T.2.holds) c.args.path.now T.1 T.2)).here in
    let typed = subst (λ h. is_child_type d.types (m.code h) c.args.code ≡ true) (sym c.tip_of.ensures) (c.requires.typed sound) in
    let chain = last-chained d u of.fit of (T.0, T.2.holds) c.tip_of.result c.args.code here typed (subst (λ x. 0 < x) (c.in_ok-ends.ensures.last sound) some) in
    subst (λ x. IsInChain m x ends.last) (sym (c.in_ok-ends.ensures.first sound))
    (subst (IsInChain m (m.first_child c.tip_of.result c.args.code)) (sym (c.in_ok-ends.ensures.last sound)) chain.0)))

pub returns-then-around-eq0-clause-read : goal.returns-then-around-eq0-clause-read
returns-then-around-eq0-clause-read g c = reads-join (Ok None) c.in_ok-ends.ensures.read (read-ok None c.in_ok-around.ensures.read)

pub returns-then-around-eq0-clause-value : goal.returns-then-around-eq0-clause-value
returns-then-around-eq0-clause-value g c f i at = record { below = λ e is. absurd (nothing e is); stays = λ e. refl }

pub returns-clause-read : goal.returns-clause-read
returns-clause-read g c = reads-join (Ok (Some c.in_ok-around.around.is_equal)) c.in_ok-ends.ensures.read (read-ok (Some c.in_ok-around.around.is_equal) c.in_ok-around.ensures.read)

one_of : (a b : Bool) → Some a ≡ Some b → a ≡ b
one_of a b e = cc

pub returns-clause-value : goal.returns-clause-value
returns-clause-value g c f i at =
    let d = c.args.dbd.now in
    let u = c.args.volume.now in
    let v = c.first_and_last_child.new.volume in
    let m = links_of d.types u in
    let G = grounds d u f (c.requires.of at.sound) at.row.holds in
    let F = (found c.args.dbd.now c.args.volume.now (c.requires.of at.sound) f c.args.path.now i at.row c.args.code c.in_ok-ends.ends.first c.tip_of.result c.tip_of.ensures (c.in_ok-ends.ensures.first at.sound)
    (some c.in_ok-ends.ends.first c.if-ends-eq0.false) (c.requires.typed at.sound)) in
    let same = after-read d u v c.in_ok-ends.ensures.read at.sound in
    let twin : c.in_ok-around.around.from ≡ address_from d.types f c.args.key.now F.first
    = from_row d.types m f G c.args.key.now F.first c.in_ok-around.around.from F.within
    (subst (λ x. IsTwinFrom d.types m c.args.key.now x c.in_ok-around.around.from) F.at
    (subst (λ k. IsTwinFrom d.types k c.args.key.now c.in_ok-ends.ends.first c.in_ok-around.around.from) same.links (c.in_ok-around.ensures.from same.sound))) in
    let T = child_from d.types f i c.args.code at.row.within c.args.key.now F.first F.is_first c.in_ok-around.around.from (some c.in_ok-around.around.from c.if-around-eq0.false) twin in
    let P = from_parts d.types (rows_of f) i c.args.code at.row.within c.args.key.now T.1.first T.0 T.1.is_first T.1.from in
    let is : c.push.new.self ≡ path_at d.types f T.0
    = c.push.ensures (short_path_by d u f (c.requires.of at.sound) c.args.path.now i at.row T.0 P.within P.parent)
    ∙ ap (λ (xs : List ℕ). xs ++ c.in_ok-around.around.from ∷ []) at.row.is ∙ T.2 in
    record {
      below = λ e r. (
        T.0,
        T.1,
        is,
        λ told.
            (let E = c.in_ok-around.ensures.equal same.sound (one_of c.in_ok-around.around.is_equal e r ∙ told) in
            ap (key_of d.types) (sym (G.addressed.same T.0 P.within) ∙ ap (segment_at m) (sym T.3))
            ∙ subst (λ k. key_of d.types (segment_at k c.in_ok-around.around.from) ≡ c.args.key.now) same.links E.is),
      );
      stays = λ e. absurd (nothing c.in_ok-around.around.is_equal (sym e));
    }

-- A segment that was freed.
use Rattle.std.proofs.Common.{◌≡◌, ◌≢◌, ℕ, ◌-◌, List, [], ◌∷◌, ◌++◌, length, take, Bool, true, false, not, IsTrue, Ok, refl, sym, ap, subst, ◌∙◌, eq-eqb, ne_eqb}
use Rattle.std.specs.Prelude.{◌==◌, ◌&&◌}
use Rattle.std.proofs.lemmas.Bool.{cond-true, cond-false}
use Rattle.std.proofs.lemmas.List.{append-nil}
use Rattle.hd_dbd.specs.Hierarchy.{Database}
use Rattle.hd_volume.specs.Volumes.{VolumeState}
use Rattle.hd_volume.specs.Calls.{IsFreed, IsRead}
use Rattle.hd_links.specs.Links.{Links, IsSegment}
use Rattle.hd_links.specs.Changes.{AgreeAt}
use Rattle.hd_forest.proofs.Reading.{after-read}
use Rattle.hd_image.specs.Laws.{IsDatabase}
use Rattle.hd_image.specs.Records.{links_of, IsVolumeOf}
use Rattle.hd_image.specs.Pointing.{without_record}
use Rattle.hd_image.proofs.Found.{segment-found}
use Rattle.hd_image.proofs.Puts.{freeing-takes}
use Rattle.hd_forest.specs.Walks.{tip}
use Rattle.hd_forest.specs.Spans.{below_on, beside_on, extended, Freeing, freed_last, freed_on, IsStep}
use Rattle.hd_forest.specs.Sets.{IsRecorded}
use Rattle.hd_forest.proofs.Keeping.{keeps-freed, keeps-same, keeps-trans}

-- the records are without it, in blocks that stay
pub freed-record : (d : Database) (v w : VolumeState) (a : ℕ) → IsDatabase d → IsVolumeOf d v → IsSegment (links_of d.types v) a → w.size ≡ v.size → w.sizes ≡ v.sizes → IsFreed v a w
    → IsRecorded d v (without_record (links_of d.types v) a) w
freed-record d v w a fit of there size sizes freed =
    let s = segment-found d v a fit of there in
    record {
      volume = record { fit = of.fit; formatted = freed.formatted; size = size ∙ of.size; sizes = sizes ∙ of.sizes };
      records = freeing-takes d.types v w a there freed;
      keeps = keeps-freed v w a s.bytes of.formatted size s.is freed;
    }

-- ---- reads before

pub recorded-after : {A : Type 0} {x : A} (d : Database) (m : Links) (u v w : VolumeState) → IsRead {T = A} u (Ok x) v → IsTrue u.is_sound → IsVolumeOf d v → IsRecorded d v m w → IsRecorded d u m w
recorded-after d m u v w r sound of h =
    let now : IsTrue v.is_sound = rw r.call.sound sound in
    record { volume = h.volume; records = h.records; keeps = keeps-trans of.formatted (keeps-same u v (r.image now) r.call.size r.call.sizes) h.keeps }

-- ---- the step

pub last-none : (d : Database) (u w : VolumeState) (m : Links) (path path' : List ℕ) (down : Bool) (next : ℕ) → next ≡ beside_on d.types m path → next ≡ 0 → path' ≡ take (length path - 1) path
    → IsRecorded d u (without_record m (tip path)) w → IsStep d u (freed_last d.types (record { path = path; down = down; records = m })) path' false w
last-none d u w m path path' down next is none up h = record {
  path_is = up ∙ sym (append-nil (take (length path - 1) path)) ∙ sym (ap (λ (x : List ℕ). take (length path - 1) path ++ x) (cond-true (beside_on d.types m path == 0) [] (beside_on d.types m path ∷ []) (eq-eqb (beside_on d.types m path) 0 (sym is ∙ none))));
  down_is = sym (ap not (eq-eqb (beside_on d.types m path) 0 (sym is ∙ none)));
  records = h;
}

pub last-some : (d : Database) (u w : VolumeState) (m : Links) (path path' : List ℕ) (down : Bool) (next : ℕ) → next ≡ beside_on d.types m path → next ≢ 0 → path' ≡ take (length path - 1) path ++ next ∷ []
    → IsRecorded d u (without_record m (tip path)) w → IsStep d u (freed_last d.types (record { path = path; down = down; records = m })) path' true w
last-some d u w m path path' down next is some up h =
    let ne : beside_on d.types m path ≢ 0 = λ z. some (is ∙ z) in
    record {
      path_is = up ∙ ap (λ (x : ℕ). take (length path - 1) path ++ x ∷ []) is
          ∙ sym (ap (λ (x : List ℕ). take (length path - 1) path ++ x) (cond-false (beside_on d.types m path == 0) [] (beside_on d.types m path ∷ []) (ne_eqb (beside_on d.types m path) 0 ne)));
      down_is = sym (ap not (ne_eqb (beside_on d.types m path) 0 ne));
      records = h;
    }

-- the step went down
pub went-down : (d : Database) (u w : VolumeState) (m : Links) (path path' : List ℕ) (down : Bool) → (down && not (below_on d.types m path == 0)) ≡ true → down ≡ true
    → path' ≡ extended path (below_on d.types m path) → IsRecorded d u m w → IsStep d u (freed_on d.types (record { path = path; down = down; records = m })) path' true w
went-down d u w m path path' down test asked on h =
    let went : Freeing = record { path = extended path (below_on d.types m path); down = down; records = m } in
    subst (λ (s : Freeing). IsStep d u s path' true w) (sym (cond-true (down && not (below_on d.types m path == 0)) went (freed_last d.types (record { path = path; down = down; records = m })) test))
    (record { path_is = on; down_is = sym asked; records = h })

-- the step freed the last
pub freed-one : (d : Database) (u w : VolumeState) (m : Links) (path path' : List ℕ) (down more : Bool) → (down && not (below_on d.types m path == 0)) ≡ false
    → IsStep d u (freed_last d.types (record { path = path; down = more; records = m })) path' more w → IsStep d u (freed_on d.types (record { path = path; down = down; records = m })) path' more w
freed-one d u w m path path' down more test h =
    let went : Freeing = record { path = extended path (below_on d.types m path); down = down; records = m } in
    subst (λ (s : Freeing). IsStep d u s path' more w) (sym (cond-false (down && not (below_on d.types m path == 0)) went (freed_last d.types (record { path = path; down = down; records = m })) test)) h

-- a call that read recorded nothing new
pub recorded-read : {A : Type 0} {x : A} (d : Database) (u v : VolumeState) → IsRead {T = A} u (Ok x) v → IsTrue u.is_sound → IsVolumeOf d u → IsRecorded d u (links_of d.types u) v
recorded-read d u v r sound of =
    let same = after-read d u v r sound in
    record {
      volume = same.volume of;
      records = λ a. subst (λ (k : Links). AgreeAt d.types (links_of d.types u) k a) (sym same.links) (same-at a);
      keeps = keeps-same u v same.image r.call.size r.call.sizes;
    }
  where
    same-at : (b : ℕ) → AgreeAt d.types (links_of d.types u) (links_of d.types u) b
    same-at b = record { here = refl; code = λ t. refl; bytes = λ s. refl; delete_byte = λ s. refl; forward = λ s. refl; backward = λ s t. refl; first_child = λ t y z. refl; last_child = λ t y z w. refl }

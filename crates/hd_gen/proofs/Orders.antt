-- The order of the statements: what the stages let stand is what the grammar spells.
use Rattle.std.proofs.Common.{◌≡◌, ◌⊎◌, List, [], ◌∷◌, ◌++◌, true, inl, inr, refl, ap}
use Rattle.std.specs.List.{list_all}
use Rattle.hd_gen.specs.declared.table.Operation.{Operation}
use Rattle.hd_gen.specs.declared.table.Operation.TheVariants.{Dbd, Dataset, Segm, Field, Lchild, Dbdgen, Finish, Pcb, Senseg, Psbgen, End}
use Rattle.hd_gen.specs.declared.table.Stage.TheVariants as stages
use Rattle.hd_gen.specs.Laws.{is_read_from, is_of_types, is_of_pcbs, IsEnd, IsDbdOrder, IsPsbOrder, StatementsStandInOrder}

-- ---- from the stages

-- nothing stands behind END
behind-ended : (os : List Operation) → is_read_from stages.Ended os ≡ true → os ≡ []
behind-ended [] h = refl
behind-ended (Dbd ∷ os) h = absurd (cc)
behind-ended (_ ∷ os) h = absurd (cc)

-- END alone stands behind FINISH
behind-finished : (os : List Operation) → is_read_from stages.Finished os ≡ true → (os ≡ []) ⊎ (os ≡ End ∷ [])
behind-finished [] h = inl refl
behind-finished (End ∷ os) h = inr (ap (λ (l : List Operation). End ∷ l) (behind-ended os h))
behind-finished (_ ∷ os) h = absurd (cc)

behind-generated : (os : List Operation) → is_read_from stages.Generated os ≡ true → IsEnd os
behind-generated [] h = record { finish = []; last = []; are = refl; finish_is = inl refl; last_is = inl refl }
behind-generated (Finish ∷ os) h =
    record { finish = Finish ∷ []; last = os; are = refl; finish_is = inr refl; last_is = behind-finished os h }
behind-generated (End ∷ os) h =
    record { finish = []; last = End ∷ os; are = refl; finish_is = inl refl; last_is = inr (ap (λ (l : List Operation). End ∷ l) (behind-ended os h)) }
behind-generated (_ ∷ os) h = absurd (cc)

-- statements of types, DBDGEN and an end
behind-types : (os : List Operation) → is_read_from stages.Types os ≡ true
    → (types : List Operation) × (behind : List Operation) × (os ≡ types ++ Dbdgen ∷ behind) × (list_all is_of_types types ≡ true) × IsEnd behind
behind-types [] h = absurd (cc)
behind-types (Segm ∷ os) h = let r = behind-types os h in (Segm ∷ r.0, r.1, ap (λ (l : List Operation). Segm ∷ l) r.2, r.3, r.4)
behind-types (Field ∷ os) h = let r = behind-types os h in (Field ∷ r.0, r.1, ap (λ (l : List Operation). Field ∷ l) r.2, r.3, r.4)
behind-types (Lchild ∷ os) h = let r = behind-types os h in (Lchild ∷ r.0, r.1, ap (λ (l : List Operation). Lchild ∷ l) r.2, r.3, r.4)
behind-types (Dbdgen ∷ os) h = ([], os, refl, refl, behind-generated os h)
behind-types (_ ∷ os) h = absurd (cc)

-- statements of PCBs, PSBGEN and an end
behind-pcbs : (os : List Operation) → is_read_from stages.Pcbs os ≡ true
    → (pcbs : List Operation) × (behind : List Operation) × (os ≡ pcbs ++ Psbgen ∷ behind) × (list_all is_of_pcbs pcbs ≡ true) × IsEnd behind
behind-pcbs [] h = absurd (cc)
behind-pcbs (Pcb ∷ os) h = let r = behind-pcbs os h in (Pcb ∷ r.0, r.1, ap (λ (l : List Operation). Pcb ∷ l) r.2, r.3, r.4)
behind-pcbs (Senseg ∷ os) h = let r = behind-pcbs os h in (Senseg ∷ r.0, r.1, ap (λ (l : List Operation). Senseg ∷ l) r.2, r.3, r.4)
behind-pcbs (Psbgen ∷ os) h = ([], os, refl, refl, behind-generated os h)
behind-pcbs (_ ∷ os) h = absurd (cc)

-- the first SEGM behind DATASET, and behind DBD
behind-sized : (os : List Operation) → is_read_from stages.Sized os ≡ true → IsDbdOrder (Dbd ∷ Dataset ∷ os)
behind-sized [] h = absurd (cc)
behind-sized (Segm ∷ os) h =
    let r = behind-types os h in
    record {
      dataset = Dataset ∷ [];
      types = r.0;
      behind = r.1;
      are = ap (λ (l : List Operation). Dbd ∷ Dataset ∷ Segm ∷ l) r.2;
      dataset_is = inr refl;
      types_are = r.3;
      ends = r.4;
    }
behind-sized (_ ∷ os) h = absurd (cc)

behind-named : (os : List Operation) → is_read_from stages.Named os ≡ true → IsDbdOrder (Dbd ∷ os)
behind-named [] h = absurd (cc)
behind-named (Segm ∷ os) h =
    let r = behind-types os h in
    record {
      dataset = [];
      types = r.0;
      behind = r.1;
      are = ap (λ (l : List Operation). Dbd ∷ Segm ∷ l) r.2;
      dataset_is = inl refl;
      types_are = r.3;
      ends = r.4;
    }
behind-named (Dataset ∷ os) h = behind-sized os h
behind-named (_ ∷ os) h = absurd (cc)

from-start : (os : List Operation) → is_read_from stages.Start os ≡ true → IsDbdOrder os ⊎ IsPsbOrder os
from-start [] h = absurd (cc)
from-start (Dbd ∷ os) h = inl (behind-named os h)
from-start (Pcb ∷ os) h =
    let r = behind-pcbs os h in inr (record { pcbs = r.0; behind = r.1; are = ap (λ (l : List Operation). Pcb ∷ l) r.2; pcbs_are = r.3; ends = r.4 })
from-start (_ ∷ os) h = absurd (cc)

-- ---- from the grammar

end-read : (os : List Operation) → IsEnd os → is_read_from stages.Generated os ≡ true
end-read os e =
    elim e.finish_is [
      | inl none ↦ (elim e.last_is [
        | inl nothing ↦ rw (e.are, none, nothing) refl
        | inr last ↦ rw (e.are, none, last) refl
      ])
      | inr finish ↦ (elim e.last_is [
        | inl nothing ↦ rw (e.are, finish, nothing) refl
        | inr last ↦ rw (e.are, finish, last) refl
      ])
    ]

types-read : (types behind : List Operation) → list_all is_of_types types ≡ true → IsEnd behind
    → is_read_from stages.Types (types ++ Dbdgen ∷ behind) ≡ true
types-read [] behind all e = end-read behind e
types-read (Segm ∷ types) behind all e = types-read types behind all e
types-read (Field ∷ types) behind all e = types-read types behind all e
types-read (Lchild ∷ types) behind all e = types-read types behind all e
types-read (_ ∷ types) behind all e = absurd (cc)

pcbs-read : (pcbs behind : List Operation) → list_all is_of_pcbs pcbs ≡ true → IsEnd behind
    → is_read_from stages.Pcbs (pcbs ++ Psbgen ∷ behind) ≡ true
pcbs-read [] behind all e = end-read behind e
pcbs-read (Pcb ∷ pcbs) behind all e = pcbs-read pcbs behind all e
pcbs-read (Senseg ∷ pcbs) behind all e = pcbs-read pcbs behind all e
pcbs-read (_ ∷ pcbs) behind all e = absurd (cc)

dbd-read : (os : List Operation) → IsDbdOrder os → is_read_from stages.Start os ≡ true
dbd-read os o =
    elim o.dataset_is [
      | inl none ↦ rw (o.are, none) (types-read o.types o.behind o.types_are o.ends)
      | inr dataset ↦ rw (o.are, dataset) (types-read o.types o.behind o.types_are o.ends)
    ]

psb-read : (os : List Operation) → IsPsbOrder os → is_read_from stages.Start os ≡ true
psb-read os o = rw o.are (pcbs-read o.pcbs o.behind o.pcbs_are o.ends)

pub statements-stand-in-order : StatementsStandInOrder
statements-stand-in-order os = (from-start os, λ either. elim either [ inl o ↦ dbd-read os o | inr o ↦ psb-read os o ])

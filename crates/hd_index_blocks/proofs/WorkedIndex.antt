-- The worked index.
use Rattle.std.proofs.Common.{◌≡◌, List, [], ◌∷◌, refl}
use Rattle.hd_volume.specs.Entries.{Entry}
use Rattle.hd_index_blocks.specs.Levels.{IsIndexSet}
use Rattle.hd_index_blocks.specs.Worked.{worked, UpperKeysNeedNotAgree}

some : (e : Entry) (es : List Entry) → e ∷ es ≡ [] → ⊥
some e es h = cc

sequence : IsIndexSet worked 0 (4 ∷ 5 ∷ 6 ∷ [])
sequence = ((refl, some _ _, (refl, some _ _, (refl, some _ _, tt))), refl)

middle : IsIndexSet worked 1 (2 ∷ 3 ∷ [])
middle = ((refl, some _ _, (refl, some _ _, tt)), ((refl, (refl, tt)), refl, ((refl, (refl, tt)), refl, ((refl, (refl, tt)), refl, tt))), sequence)

pub agree-not : UpperKeysNeedNotAgree
agree-not = (((refl, some _ _, tt), ((refl, (refl, (refl, (refl, tt)))), refl, ((refl, (refl, tt)), refl, tt)), middle), refl, refl, refl, refl)

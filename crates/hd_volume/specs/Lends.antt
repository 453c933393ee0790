-- What a volume ends as, once a reference into it has ended.
use Rattle.std.specs.Prelude.{⊤}
use Rattle.std.specs.Borrow.{Fml, RattleType, MutBor, follows_so}
use mathlib.Core.Option.{none}
use Rattle.hd_stores.specs.declared.store.BlockStore as store
use Rattle.hd_volume.specs.Volumes.{VolumeState}
use Rattle.hd_volume.specs.contracts.volume.Volume.{the_row}

module _ (S : RattleType) (g : store.Ghosts S.Denot) where
  abbrev pub volume_row : RattleType
  volume_row = the_row S g

  -- the volume ends as P says
  abbrev pub Rests : MutBor VolumeState → (VolumeState → Type 0) → Fml
  Rests v P = follows_so volume_row volume_row v.ghost_name none (λ _ _. ⊤) P

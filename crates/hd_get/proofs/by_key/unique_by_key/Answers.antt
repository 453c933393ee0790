use Rattle.std.proofs.Common.{◌≡◌, ℕ, List, [], ◌∷◌, Bool, true, false, cond, Option, Some, None, refl}
use Rattle.std.specs.Prelude.{◌==◌}
use Rattle.std.proofs.lemmas.Bool.{false≢true}
use Rattle.hd_dbd.specs.Types.{SegmentType}
use Rattle.hd_calls.specs.Ssas.{Ssa}
use Rattle.hd_get.specs.Starts.{least_root_key}
use Rattle.hd_get.specs.Descents.{is_root_first}
use Rattle.hd_get.proofs.by_key.unique_by_key.Goals as goal

-- who tells of a least key of the root is the root's
root_first : (types : List SegmentType) (ssas : List Ssa) (key : List ℕ) → Some key ≡ least_root_key types ssas → is_root_first ssas ≡ true
root_first types [] key e = cc
root_first types (a ∷ ssas) key e = by (a.code == 1) _ e
  where
    by : (b : Bool) (o : Option (List ℕ)) → Some key ≡ cond b o None → b ≡ true
    by true o e = refl
    by false o e = cc

pub descend_from-requires-clause-first : goal.descend_from-requires-clause-first
descend_from-requires-clause-first g c = root_first c.args.dbd.now.types c.args.ssas.now c.in-Some.key.now c.in-Some.ensures.value

pub returns-in_ok-path-in-None-clause-begins : goal.returns-in_ok-path-in-None-clause-begins
returns-in_ok-path-in-None-clause-begins g c f test sound holds named = record { number = 0; same = refl; leads = c.in_ok-path-in-None.ensures.value f sound holds.records; named = λ e. absurd (false≢true e) }

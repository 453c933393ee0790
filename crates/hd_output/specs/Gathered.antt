-- What callers see of a writer that gathers bytes.
use Rattle.std.specs.Prelude.{ℕ, List, take}
use Rattle.std.specs.declared.option.Option.{Option}
use Rattle.std.specs.Io.KnownBytes.{append_known, Appends}

-- the writer behind, the bytes that are not handed on yet, and how many more fit behind them
pub record Gathered (W : Type 0) : Type 0 where
  pub inner : W
  pub bytes : List ℕ
  pub left : ℕ

-- what was handed on, and then what is gathered, where that is known
abbrev pub contents_with : {W : Type 0} → (W → Option (List ℕ)) → Gathered W → Option (List ℕ)
contents_with contents p = append_known (contents p.inner) p.bytes

-- known bytes grow by the first of bs, none or some or all
abbrev pub AppendsFront : Option (List ℕ) → Option (List ℕ) → List ℕ → Type 0
AppendsFront old new bs = (n : ℕ) × Appends old new (take n bs)

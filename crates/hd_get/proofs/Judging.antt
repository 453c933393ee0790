-- Verdicts and what they rest on.
use Rattle.std.proofs.Common.{◌≡◌, ℕ, List, Bool, true, false, sym, ap, subst}
use Rattle.std.proofs.lemmas.Bool.{false≢true}
use Rattle.hd_dbd.specs.Types.{SegmentType}
use Rattle.hd_dbd.specs.Forest.{Forest}
use Rattle.hd_dbd.specs.Paths.{parent_row, end_of}
use Rattle.hd_links.specs.Placed.{Placed}
use Rattle.hd_links.specs.Steps.{rows_of}
use Rattle.hd_calls.specs.Places.{end_below}
use Rattle.hd_calls.specs.Admits.{NonePass}
use Rattle.hd_get.specs.declared.verdict.Verdict.{Verdict}
use Rattle.hd_get.specs.declared.verdict.Verdict.TheVariants.{Found, Next, Over, Down, DownToLast, Across, AcrossTo, Beside, BesideToLast, Rest}
use Rattle.hd_get.specs.Searches.{AllAdmitted, NonePassAcross, IsWayDown, IsWayToLast, IsWayAcross, IsWayBeside, IsWayBesideToLast, IsJudged}

-- which verdict it is
is_found : Verdict → Bool
is_found Found = true
is_found Next = false
is_found Over = false
is_found (Down code) = false
is_found (DownToLast code) = false
is_found Across = false
is_found (AcrossTo a) = false
is_found (Beside code) = false
is_found (BesideToLast code) = false
is_found Rest = false

is_next : Verdict → Bool
is_next Found = false
is_next Next = true
is_next Over = false
is_next (Down code) = false
is_next (DownToLast code) = false
is_next Across = false
is_next (AcrossTo a) = false
is_next (Beside code) = false
is_next (BesideToLast code) = false
is_next Rest = false

is_over : Verdict → Bool
is_over Found = false
is_over Next = false
is_over Over = true
is_over (Down code) = false
is_over (DownToLast code) = false
is_over Across = false
is_over (AcrossTo a) = false
is_over (Beside code) = false
is_over (BesideToLast code) = false
is_over Rest = false

is_down : Verdict → Bool
is_down Found = false
is_down Next = false
is_down Over = false
is_down (Down code) = true
is_down (DownToLast code) = false
is_down Across = false
is_down (AcrossTo a) = false
is_down (Beside code) = false
is_down (BesideToLast code) = false
is_down Rest = false

is_to_last : Verdict → Bool
is_to_last Found = false
is_to_last Next = false
is_to_last Over = false
is_to_last (Down code) = false
is_to_last (DownToLast code) = true
is_to_last Across = false
is_to_last (AcrossTo a) = false
is_to_last (Beside code) = false
is_to_last (BesideToLast code) = false
is_to_last Rest = false

is_across : Verdict → Bool
is_across Found = false
is_across Next = false
is_across Over = false
is_across (Down code) = false
is_across (DownToLast code) = false
is_across Across = true
is_across (AcrossTo a) = false
is_across (Beside code) = false
is_across (BesideToLast code) = false
is_across Rest = false

is_across_to : Verdict → Bool
is_across_to Found = false
is_across_to Next = false
is_across_to Over = false
is_across_to (Down code) = false
is_across_to (DownToLast code) = false
is_across_to Across = false
is_across_to (AcrossTo a) = true
is_across_to (Beside code) = false
is_across_to (BesideToLast code) = false
is_across_to Rest = false

is_beside : Verdict → Bool
is_beside Found = false
is_beside Next = false
is_beside Over = false
is_beside (Down code) = false
is_beside (DownToLast code) = false
is_beside Across = false
is_beside (AcrossTo a) = false
is_beside (Beside code) = true
is_beside (BesideToLast code) = false
is_beside Rest = false

is_beside_to_last : Verdict → Bool
is_beside_to_last Found = false
is_beside_to_last Next = false
is_beside_to_last Over = false
is_beside_to_last (Down code) = false
is_beside_to_last (DownToLast code) = false
is_beside_to_last Across = false
is_beside_to_last (AcrossTo a) = false
is_beside_to_last (Beside code) = false
is_beside_to_last (BesideToLast code) = true
is_beside_to_last Rest = false

is_rest : Verdict → Bool
is_rest Found = false
is_rest Next = false
is_rest Over = false
is_rest (Down code) = false
is_rest (DownToLast code) = false
is_rest Across = false
is_rest (AcrossTo a) = false
is_rest (Beside code) = false
is_rest (BesideToLast code) = false
is_rest Rest = true

module _ (test admits : ℕ → Bool) (types : List SegmentType) (f : Forest Placed) (i : ℕ) where
  pub judged_found : test i ≡ true → admits i ≡ true → IsJudged test admits types f i Found
  unfolding is_next is_over is_down is_across is_beside is_rest is_to_last is_beside_to_last is_across_to
  judged_found is own = record {
    admitted = λ e. own;
    span = λ e. absurd (false≢true (sym e));
    found = λ e. is;
    next = λ e. absurd (false≢true (ap is_next e));
    over = λ e. absurd (false≢true (ap is_over e));
    down = λ code e. absurd (false≢true (ap is_down e));
    to_last = λ code e. absurd (false≢true (ap is_to_last e));
    across = λ e. absurd (false≢true (ap is_across e));
    across_to = λ a e. absurd (false≢true (ap is_across_to e));
    beside = λ code e. absurd (false≢true (ap is_beside e));
    beside_to_last = λ code e. absurd (false≢true (ap is_beside_to_last e));
    rest = λ e. absurd (false≢true (ap is_rest e));
  }

  pub judged_next : test i ≡ false → AllAdmitted admits → IsJudged test admits types f i Next
  unfolding is_found is_over is_down is_across is_beside is_rest is_to_last is_beside_to_last is_across_to
  judged_next is all = record {
    admitted = λ e. all i;
    span = λ e. absurd (false≢true (sym e));
    found = λ e. absurd (false≢true (ap is_found e));
    next = λ e. (is, all);
    over = λ e. absurd (false≢true (ap is_over e));
    down = λ code e. absurd (false≢true (ap is_down e));
    to_last = λ code e. absurd (false≢true (ap is_to_last e));
    across = λ e. absurd (false≢true (ap is_across e));
    across_to = λ a e. absurd (false≢true (ap is_across_to e));
    beside = λ code e. absurd (false≢true (ap is_beside e));
    beside_to_last = λ code e. absurd (false≢true (ap is_beside_to_last e));
    rest = λ e. absurd (false≢true (ap is_rest e));
  }

  pub judged_over : NonePass test i (end_of types (rows_of f) i) → AllAdmitted admits → IsJudged test admits types f i Over
  unfolding is_found is_next is_down is_across is_beside is_rest is_to_last is_beside_to_last is_across_to
  judged_over none all = record {
    admitted = λ e. absurd (false≢true e);
    span = λ e. none;
    found = λ e. absurd (false≢true (ap is_found e));
    next = λ e. absurd (false≢true (ap is_next e));
    over = λ e. all;
    down = λ code e. absurd (false≢true (ap is_down e));
    to_last = λ code e. absurd (false≢true (ap is_to_last e));
    across = λ e. absurd (false≢true (ap is_across e));
    across_to = λ a e. absurd (false≢true (ap is_across_to e));
    beside = λ code e. absurd (false≢true (ap is_beside e));
    beside_to_last = λ code e. absurd (false≢true (ap is_beside_to_last e));
    rest = λ e. absurd (false≢true (ap is_rest e));
  }

  pub judged_down : (code : ℕ) → IsWayDown test admits types (rows_of f) i code → IsJudged test admits types f i (Down code)
  unfolding is_found is_next is_over is_across is_beside is_rest is_to_last is_beside_to_last is_across_to
  judged_down code way = record {
    admitted = λ e. way.admitted;
    span = λ e. absurd (false≢true (sym e));
    found = λ e. absurd (false≢true (ap is_found e));
    next = λ e. absurd (false≢true (ap is_next e));
    over = λ e. absurd (false≢true (ap is_over e));
    down = λ other e. one way e;
    to_last = λ code e. absurd (false≢true (ap is_to_last e));
    across = λ e. absurd (false≢true (ap is_across e));
    across_to = λ a e. absurd (false≢true (ap is_across_to e));
    beside = λ other e. absurd (false≢true (ap is_beside e));
    beside_to_last = λ code e. absurd (false≢true (ap is_beside_to_last e));
    rest = λ e. absurd (false≢true (ap is_rest e));
  }
    where
      one : {other : ℕ} → IsWayDown test admits types (rows_of f) i code → Down code ≡ Down other → IsWayDown test admits types (rows_of f) i other
      one {other} w e = subst (IsWayDown test admits types (rows_of f) i) (same other e) w
        where
          same : (other : ℕ) → Down code ≡ Down other → code ≡ other
          same other e = cc

  pub judged_to_last : (code : ℕ) → IsWayToLast test admits types (rows_of f) i code → IsJudged test admits types f i (DownToLast code)
  unfolding is_found is_next is_over is_down is_across is_beside is_rest is_beside_to_last is_across_to
  judged_to_last code way = record {
    admitted = λ e. way.down.admitted;
    span = λ e. absurd (false≢true (sym e));
    found = λ e. absurd (false≢true (ap is_found e));
    next = λ e. absurd (false≢true (ap is_next e));
    over = λ e. absurd (false≢true (ap is_over e));
    down = λ other e. absurd (false≢true (ap is_down e));
    to_last = λ other e. one way e;
    across = λ e. absurd (false≢true (ap is_across e));
    across_to = λ a e. absurd (false≢true (ap is_across_to e));
    beside = λ other e. absurd (false≢true (ap is_beside e));
    beside_to_last = λ code e. absurd (false≢true (ap is_beside_to_last e));
    rest = λ e. absurd (false≢true (ap is_rest e));
  }
    where
      one : {other : ℕ} → IsWayToLast test admits types (rows_of f) i code → DownToLast code ≡ DownToLast other → IsWayToLast test admits types (rows_of f) i other
      one {other} w e = subst (IsWayToLast test admits types (rows_of f) i) (same other e) w
        where
          same : (other : ℕ) → DownToLast code ≡ DownToLast other → code ≡ other
          same other e = cc

  pub judged_across : NonePass test i (end_of types (rows_of f) i) → NonePassAcross test types (rows_of f) i → IsJudged test admits types f i Across
  unfolding is_found is_next is_over is_down is_beside is_rest is_to_last is_beside_to_last is_across_to
  judged_across none across = record {
    admitted = λ e. absurd (false≢true e);
    span = λ e. none;
    found = λ e. absurd (false≢true (ap is_found e));
    next = λ e. absurd (false≢true (ap is_next e));
    over = λ e. absurd (false≢true (ap is_over e));
    down = λ code e. absurd (false≢true (ap is_down e));
    to_last = λ code e. absurd (false≢true (ap is_to_last e));
    across = λ e. across;
    across_to = λ a e. absurd (false≢true (ap is_across_to e));
    beside = λ code e. absurd (false≢true (ap is_beside e));
    beside_to_last = λ code e. absurd (false≢true (ap is_beside_to_last e));
    rest = λ e. absurd (false≢true (ap is_rest e));
  }

  pub judged_across_to : (a : ℕ) → NonePass test i (end_of types (rows_of f) i) → IsWayAcross test types f i a → IsJudged test admits types f i (AcrossTo a)
  unfolding is_found is_next is_over is_down is_across is_beside is_rest is_to_last is_beside_to_last
  judged_across_to a none way = record {
    admitted = λ e. absurd (false≢true e);
    span = λ e. none;
    found = λ e. absurd (false≢true (ap is_found e));
    next = λ e. absurd (false≢true (ap is_next e));
    over = λ e. absurd (false≢true (ap is_over e));
    down = λ code e. absurd (false≢true (ap is_down e));
    to_last = λ code e. absurd (false≢true (ap is_to_last e));
    across = λ e. absurd (false≢true (ap is_across e));
    across_to = λ other e. one way e;
    beside = λ code e. absurd (false≢true (ap is_beside e));
    beside_to_last = λ code e. absurd (false≢true (ap is_beside_to_last e));
    rest = λ e. absurd (false≢true (ap is_rest e));
  }
    where
      one : {other : ℕ} → IsWayAcross test types f i a → AcrossTo a ≡ AcrossTo other → IsWayAcross test types f i other
      one {other} w e = subst (IsWayAcross test types f i) (same other e) w
        where
          same : (other : ℕ) → AcrossTo a ≡ AcrossTo other → a ≡ other
          same other e = cc

  pub judged_beside : (code : ℕ) → NonePass test i (end_of types (rows_of f) i) → IsWayBeside test admits types (rows_of f) i code → IsJudged test admits types f i (Beside code)
  unfolding is_found is_next is_over is_down is_across is_rest is_to_last is_beside_to_last is_across_to
  judged_beside code none way = record {
    admitted = λ e. absurd (false≢true e);
    span = λ e. none;
    found = λ e. absurd (false≢true (ap is_found e));
    next = λ e. absurd (false≢true (ap is_next e));
    over = λ e. absurd (false≢true (ap is_over e));
    down = λ other e. absurd (false≢true (ap is_down e));
    to_last = λ code e. absurd (false≢true (ap is_to_last e));
    across = λ e. absurd (false≢true (ap is_across e));
    across_to = λ a e. absurd (false≢true (ap is_across_to e));
    beside = λ other e. one way e;
    beside_to_last = λ code e. absurd (false≢true (ap is_beside_to_last e));
    rest = λ e. absurd (false≢true (ap is_rest e));
  }
    where
      one : {other : ℕ} → IsWayBeside test admits types (rows_of f) i code → Beside code ≡ Beside other → IsWayBeside test admits types (rows_of f) i other
      one {other} w e = subst (IsWayBeside test admits types (rows_of f) i) (same other e) w
        where
          same : (other : ℕ) → Beside code ≡ Beside other → code ≡ other
          same other e = cc

  pub judged_beside_to_last : (code : ℕ) → NonePass test i (end_of types (rows_of f) i) → IsWayBesideToLast test admits types (rows_of f) i code → IsJudged test admits types f i (BesideToLast code)
  unfolding is_found is_next is_over is_down is_to_last is_across is_beside is_rest is_across_to
  judged_beside_to_last code none way = record {
    admitted = λ e. absurd (false≢true e);
    span = λ e. none;
    found = λ e. absurd (false≢true (ap is_found e));
    next = λ e. absurd (false≢true (ap is_next e));
    over = λ e. absurd (false≢true (ap is_over e));
    down = λ other e. absurd (false≢true (ap is_down e));
    to_last = λ other e. absurd (false≢true (ap is_to_last e));
    across = λ e. absurd (false≢true (ap is_across e));
    across_to = λ a e. absurd (false≢true (ap is_across_to e));
    beside = λ other e. absurd (false≢true (ap is_beside e));
    beside_to_last = λ other e. one way e;
    rest = λ e. absurd (false≢true (ap is_rest e));
  }
    where
      one : {other : ℕ} → IsWayBesideToLast test admits types (rows_of f) i code → BesideToLast code ≡ BesideToLast other → IsWayBesideToLast test admits types (rows_of f) i other
      one {other} w e = subst (IsWayBesideToLast test admits types (rows_of f) i) (same other e) w
        where
          same : (other : ℕ) → BesideToLast code ≡ BesideToLast other → code ≡ other
          same other e = cc

  pub judged_rest : NonePass test i (end_of types (rows_of f) i) → NonePass test i (end_below types (rows_of f) (parent_row types (rows_of f) i)) → NonePassAcross test types (rows_of f) i
      → IsJudged test admits types f i Rest
  unfolding is_found is_next is_over is_down is_across is_beside is_to_last is_beside_to_last is_across_to
  judged_rest span none across = record {
    admitted = λ e. absurd (false≢true e);
    span = λ e. span;
    found = λ e. absurd (false≢true (ap is_found e));
    next = λ e. absurd (false≢true (ap is_next e));
    over = λ e. absurd (false≢true (ap is_over e));
    down = λ code e. absurd (false≢true (ap is_down e));
    to_last = λ code e. absurd (false≢true (ap is_to_last e));
    across = λ e. absurd (false≢true (ap is_across e));
    across_to = λ a e. absurd (false≢true (ap is_across_to e));
    beside = λ code e. absurd (false≢true (ap is_beside e));
    beside_to_last = λ code e. absurd (false≢true (ap is_beside_to_last e));
    rest = λ e. (none, across);
  }

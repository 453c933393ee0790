-- What each effect keeps to: whom it leaves holding, and what an update touches.
use Rattle.std.proofs.Common.{◌≡◌, ℕ, zero, suc, ◌-◌, ◌<◌, ◌≤◌, List, [], ◌∷◌, ◌++◌, length, true, false, Bool, cond, arith, ap, sym, ◌∙◌, subst, Option, Some, None, refl, inl, inr, ◌⊎◌}
use Rattle.std.specs.Prelude.{◌==◌, ◌&&◌, not, nat_lt, filter_map, is_none, find}
use Rattle.std.specs.Option.{option_map_or, IsSomeAnd}
use Rattle.std.specs.List.{cons_option, list_all, AllByRecursion}
use Rattle.std.proofs.lemmas.Bool.{and_parts, cases_Bool, cases_lt}
use Rattle.hd_dbd.specs.Types.{SegmentType}
use Rattle.hd_dbd.specs.declared.answer.Status.{Status}
use Rattle.hd_dbd.specs.declared.answer.Status.TheVariants.{Blank, GA, GK, GB, GE}
use Rattle.hd_dbd.specs.Segment.{Segment}
use Rattle.hd_dbd.specs.Paths.{row_at, level_at, path_of, path_above}
use Rattle.hd_dbd.specs.Positions.{Position, Place, at_start}
use Rattle.hd_dbd.specs.Calls.{Reply, bare}
use Rattle.hd_dbd.specs.Views.{Setting, may}
use Rattle.hd_dbd.specs.Letters.{gives_get}
use Rattle.hd_calls.specs.declared.call.GetKind.{GetKind}
use Rattle.hd_calls.specs.declared.call.Function.{Function}
use Rattle.hd_calls.specs.declared.call.Function.TheVariants.{Get}
use Rattle.hd_calls.specs.declared.call.GetKind.TheVariants.{Unique, Next, NextInParent}
use Rattle.hd_calls.specs.Ssas.{Ssa, above_target}
use Rattle.hd_calls.specs.Satisfies.{on_path, satisfies}
use Rattle.hd_calls.specs.Gets.{crossing, unheld, get_step, get_found, get_missing, get_status, sought, path_rows, bytes_of, search_start, search_end}
use Rattle.hd_calls.specs.Moves.{Change, unchanged, inserted, deleted, rewritten}
use Rattle.hd_calls.specs.Steps.{Effect, answered, wrong_area, bare_answer, get_effect}
use Rattle.hd_calls.proofs.Searches.{least_some}
use Rattle.hd_calls.specs.NoLostUpdate.{is_blank, is_done, is_hold_form, is_update_form, UpdatesHeld}

-- What is held after an answer is what a hold form returned.
pub record IsHeld (f : Option Function) (rows : List Segment) (reply : Reply) (change : Change) (own : Position) : Type 0 where
  pub asked : option_map_or is_hold_form f false ≡ true
  pub done : is_done reply.status ≡ true
  pub same : change ≡ unchanged
  pub area : reply.area ≡ bytes_of rows own.held
  pub within : AllByRecursion (λ i. i < length rows) own.held

-- a span that is deleted ends behind its beginning
abbrev pub GoesForward : Change → Type 0
GoesForward unchanged = Unit {0}
GoesForward (inserted p new) = Unit {0}
GoesForward (deleted from to) = from ≤ to
GoesForward (rewritten ws) = Unit {0}

pub record IsFairAnswer (f : Option Function) (types : List SegmentType) (rows : List Segment) (held : List ℕ) (excepted : ℕ → Bool) (reply : Reply) (change : Change) (own : Position) : Type 0 where
  pub holds : (own.held ≡ []) ⊎ IsHeld f rows reply change own
  pub forward : GoesForward change
  pub touches : option_map_or is_update_form f false ≡ true → is_blank reply.status ≡ true → (0 < length held) × IsSomeAnd f (λ f. UpdatesHeld types rows held excepted f change)

abbrev pub IsFair : Option Function → List SegmentType → List Segment → List ℕ → (ℕ → Bool) → Effect → Type 0
IsFair f types rows held excepted (answered reply change own) = IsFairAnswer f types rows held excepted reply change own
IsFair f types rows held excepted wrong_area = Unit {0}

-- ---- refusals

pub refused_fair : (f : Option Function) (types : List SegmentType) (rows : List Segment) (held : List ℕ) (excepted : ℕ → Bool) (p : Position) (status : Status)
    → is_blank status ≡ false → IsFair f types rows held excepted (bare_answer p status)
refused_fair f types rows held excepted p status other = record {
  holds = inl refl;
  forward = tt;
  touches = λ u b. cc;
}

-- ---- gets

crossing_done : (last : Option Place) (level code : ℕ) → is_done (crossing last level code) ≡ true
crossing_done None level code = refl
crossing_done (Some p) level code = elim (cases_Bool (nat_lt level p.level)) [
  | inl low ↦ ap (λ b. is_done (cond b GA (cond (level == p.level && not (code == p.code)) GK Blank))) low
  | inr high ↦ ap (λ b. is_done (cond b GA (cond (level == p.level && not (code == p.code)) GK Blank))) high
      ∙ by_same (level == p.level && not (code == p.code))
]
  where
    by_same : (b : Bool) → is_done (cond b GK Blank) ≡ true
    by_same true = refl
    by_same false = refl

status_done : (types : List SegmentType) (rows : List Segment) (p : Position) (kind : GetKind) (ssas : List Ssa) (i : ℕ) → is_done (get_status types rows p kind ssas i) ≡ true
status_done types rows p Unique ssas i = refl
status_done types rows p Next ssas i = by_ssas (length ssas == 0)
  where
    by_ssas : (b : Bool) → is_done (cond b (crossing p.last (level_at types rows i) (row_at rows i).code) Blank) ≡ true
    by_ssas true = crossing_done p.last (level_at types rows i) (row_at rows i).code
    by_ssas false = refl
status_done types rows p NextInParent ssas i = by_ssas (length ssas == 0)
  where
    by_ssas : (b : Bool) → is_done (cond b (crossing p.last (level_at types rows i) (row_at rows i).code) Blank) ≡ true
    by_ssas true = crossing_done p.last (level_at types rows i) (row_at rows i).code
    by_ssas false = refl

-- each of two lists, and of both
pub all_append : {X : Type 0} (P : X → Type 0) (xs ys : List X) → AllByRecursion P xs → AllByRecursion P ys → AllByRecursion P (xs ++ ys)
all_append P [] ys a b = b
all_append P (x ∷ xs) ys a b = (a.0, all_append P xs ys a.1 b)

all_weaker : {X : Type 0} (P Q : X → Type 0) → ((x : X) → P x → Q x) → (xs : List X) → AllByRecursion P xs → AllByRecursion Q xs
all_weaker P Q f [] a = a
all_weaker P Q f (x ∷ xs) a = (f x a.0, all_weaker P Q f xs a.1)

-- the rows of a path come before its last
above_before : (types : List SegmentType) (rows : List Segment) (l n : ℕ) → AllByRecursion (λ i. i < n) (path_above types rows l n)
above_before types rows l zero = tt
above_before types rows l (suc k) =
    by_level (above_before types rows (level_at types rows k) k) (above_before types rows l k) (nat_lt (level_at types rows k) l)
  where
    by_level : AllByRecursion (λ i. i < k) (path_above types rows (level_at types rows k) k) → AllByRecursion (λ i. i < k) (path_above types rows l k)
        → (b : Bool) → AllByRecursion (λ i. i < suc k) (cond b (path_above types rows (level_at types rows k) k ++ k ∷ []) (path_above types rows l k))
    by_level own other true = all_append (λ i. i < suc k) (path_above types rows (level_at types rows k) k) (k ∷ [])
        (all_weaker (λ i. i < k) (λ i. i < suc k) (λ i below. omega arith) (path_above types rows (level_at types rows k) k) own)
        (omega arith, tt)
    by_level own other false = all_weaker (λ i. i < k) (λ i. i < suc k) (λ i below. omega arith) (path_above types rows l k) other

path_up_to : (types : List SegmentType) (rows : List Segment) (i n : ℕ) → i < n → AllByRecursion (λ k. k < n) (path_of types rows i)
path_up_to types rows i n within =
    all_append (λ k. k < n) (path_above types rows (level_at types rows i) i) (i ∷ [])
    (all_weaker (λ k. k < i) (λ k. k < n) (λ k below. omega arith) (path_above types rows (level_at types rows i) i) (above_before types rows (level_at types rows i) i))
    (within, tt)

-- what is found is one of those looked at
found_in : {X : Type 0} (P : X → Type 0) (test : X → Bool) (xs : List X) (x : X) → AllByRecursion P xs → find test xs ≡ Some x → P x
found_in P test [] x a is = cc
found_in P test (y ∷ ys) x a is = elim (cases_Bool (test y)) [
  | inl yes_ ↦ (let same : Some y ≡ Some x = sym (ap (λ b. cond b (Some y) (find test ys)) yes_) ∙ is in
      let eq : y ≡ x = cc in subst P eq a.0)
  | inr no_ ↦ found_in P test ys x a.1 (sym (ap (λ b. cond b (Some y) (find test ys)) no_) ∙ is)
]

rows_within : (types : List SegmentType) (rows : List Segment) (ssas : List Ssa) (i n : ℕ) → i < n
    → AllByRecursion (λ k. k < n) (filter_map (λ a. cond a.commands.path (on_path types rows a.code i) None) ssas)
rows_within types rows [] i n within = tt
rows_within types rows (a ∷ ssas) i n within = by_path (rows_within types rows ssas i n within) a.commands.path (on_path types rows a.code i) refl
  where
    by_path : AllByRecursion (λ k. k < n) (filter_map (λ a. cond a.commands.path (on_path types rows a.code i) None) ssas) → (b : Bool) (o : Option ℕ) → on_path types rows a.code i ≡ o
        → AllByRecursion (λ k. k < n) (cons_option (cond b o None) (filter_map (λ a. cond a.commands.path (on_path types rows a.code i) None) ssas))
    by_path rest false o is = rest
    by_path rest true None is = rest
    by_path rest true (Some k) is = (found_in (λ k. k < n) (λ k. (row_at rows k).code == a.code) (path_of types rows i) k (path_up_to types rows i n within) is, rest)

-- no row at all stands past the last
past_last : (rows : List Segment) (i : ℕ) → length rows ≤ i → (row_at rows i).code ≡ 0
past_last [] i past = refl
past_last (r ∷ rows) zero past = absurd (omega arith)
past_last (r ∷ rows) (suc i) past = past_last rows i (omega arith)

pub satisfying_within : (s : Setting) (rows : List Segment) (ssas : List Ssa) (i : ℕ) → satisfies s rows ssas i ≡ true → i < length rows
satisfying_within s rows ssas i is = elim (cases_lt i (length rows)) [
  | inl within ↦ within
  | inr past ↦ (let code : (row_at rows i).code ≡ 0 = past_last rows i past in
      let readable : may s gives_get (row_at rows i).code ≡ true = (and_parts _ _ is).1 in
      let none : may s gives_get 0 ≡ true = ap (λ (c : ℕ). may s gives_get c) (sym code) ∙ readable in
      absurd (the_falsehood none))
]
  where
    the_falsehood : may s gives_get 0 ≡ true → ⊥
    the_falsehood is = cc

pub get_fair : (s : Setting) (rows : List Segment) (p : Position) (kind : GetKind) (hold : Bool) (ssas : List Ssa) (held : List ℕ) (excepted : ℕ → Bool)
    → IsFair (Some (Get kind hold)) s.types rows held excepted (get_effect (get_step s rows p kind hold ssas))
get_fair s rows p kind hold ssas held excepted = by_found (sought s rows p kind ssas) refl
  where
    missing : (kind : GetKind) → IsFair (Some (Get kind hold)) s.types rows held excepted (get_effect (get_missing p kind ssas))
    missing Unique = record { holds = inl refl; forward = tt; touches = λ u b. cc }
    missing Next = by_plain (list_all (λ a. is_none a.groups) ssas)
      where
        by_plain : (b : Bool) → IsFair (Some (Get Next hold)) s.types rows held excepted (get_effect (cond b (bare GB, at_start) (bare GE, unheld p)))
        by_plain true = record { holds = inl refl; forward = tt; touches = λ u b. cc }
        by_plain false = record { holds = inl refl; forward = tt; touches = λ u b. cc }
    missing NextInParent = record { holds = inl refl; forward = tt; touches = λ u b. cc }

    by_found : (o : Option ℕ) → sought s rows p kind ssas ≡ o
        → IsFair (Some (Get kind hold)) s.types rows held excepted (get_effect (option_map_or (λ i. get_found s rows p kind hold ssas i) o (get_missing p kind ssas)))
    by_found None is = missing kind
    by_found (Some i) is =
        let within : i < length rows = satisfying_within s rows ssas i
        (least_some (satisfies s rows ssas) (search_end s.types rows p kind - search_start s.types rows p kind ssas) (search_start s.types rows p kind ssas) i is).2 in
        by_hold hold refl
        (all_append (λ k. k < length rows) (filter_map (λ a. cond a.commands.path (on_path s.types rows a.code i) None) (above_target ssas)) (i ∷ [])
        (rows_within s.types rows (above_target ssas) i (length rows) within) (within, tt))
      where
        by_hold : (h : Bool) → hold ≡ h → AllByRecursion (λ k. k < length rows) (path_rows s.types rows ssas i)
            → IsFair (Some (Get kind h)) s.types rows held excepted (get_effect (get_found s rows p kind h ssas i))
        by_hold true eq all = record {
          holds = inr (record { asked = refl; done = status_done s.types rows p kind ssas i; same = refl; area = refl; within = all });
          forward = tt;
          touches = λ u b. cc;
        }
        by_hold false eq all = record { holds = inl refl; forward = tt; touches = λ u b. cc }

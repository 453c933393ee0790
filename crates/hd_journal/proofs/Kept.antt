-- One more pair joins those that a disk has had.
use Rattle.std.proofs.Common.{◌≡◌, ◌⊎◌, inl, inr, ⊎_elim, ℕ, zero, suc, ◌≤◌, List, [], ◌∷◌, ◌++◌, length, drop, refl, sym, ◌∙◌, subst, arith, length-append}
use Rattle.hd_journal.specs.Disk.{Mark, State, Torn, Cut, Elapses, WritesLog, WritesVolume, CutsVolume}
use Rattle.hd_journal.specs.declared.memory_disk.Pair.{Pair}
use Rattle.hd_journal.specs.Past.{HadBeen, state_in}

keeps : (past : List Pair) (p : Pair) (l v : List ℕ) → HadBeen past l v → HadBeen (past ++ p ∷ []) l v
keeps [] p l v had = absurd had
keeps (q ∷ past) p l v (inl here) = inl here
keeps (q ∷ past) p l v (inr there) = inr (keeps past p l v there)

adds : (past : List Pair) (p : Pair) (l v : List ℕ) → HadBeen (past ++ p ∷ []) l v → HadBeen past l v ⊎ ((l ≡ p.log.items) × (v ≡ p.volume.items))
adds [] p l v (inl here) = inr here
adds [] p l v (inr none) = absurd none
adds (q ∷ past) p l v (inl here) = inl (inl here)
adds (q ∷ past) p l v (inr there) = ⊎_elim (λ had. inl (inr had)) (λ new. inr new) (adds past p l v there)

newest : (past : List Pair) (p : Pair) (l v : List ℕ) → l ≡ p.log.items → v ≡ p.volume.items → HadBeen (past ++ p ∷ []) l v
newest [] p l v a b = inl (a, b)
newest (q ∷ past) p l v a b = inr (newest past p l v a b)

drop_push : (t : ℕ) (past : List Pair) (p : Pair) → t ≤ length past → drop t (past ++ p ∷ []) ≡ drop t past ++ p ∷ []
drop_push zero past p le = refl
drop_push (suc t) [] p le = absurd (omega arith)
drop_push (suc t) (q ∷ past) p le = drop_push t past p (omega arith)

pub elapses-same : (s : State) → Elapses s s
elapses-same s = record { later = omega arith; nothing_else = λ t l v le left. inl left; keeps = λ t l v le left. left; marks = refl }

elapses-push : (past : List Pair) (p : Pair) (log volume log' volume' : List ℕ) (marks : List Mark) → p.log.items ≡ log → p.volume.items ≡ volume → Elapses (state_in past log volume marks) (state_in (past ++ p ∷ []) log' volume' marks)
elapses-push past p log volume log' volume' marks a b = record {
  later = omega (arith, length-append past (p ∷ []));
  nothing_else = λ t l v le left. ⊎_elim (λ now. inr now) (λ had. inl (was t l v (adds (drop t past) p l v (subst (λ (ps : List Pair). HadBeen ps l v) (drop_push t past p le) had)))) left;
  keeps = λ t l v le left. inr (subst (λ (ps : List Pair). HadBeen ps l v) (sym (drop_push t past p le)) (⊎_elim (λ now. newest (drop t past) p l v (now.0 ∙ sym a) (now.1 ∙ sym b)) (keeps (drop t past) p l v) left));
  marks = refl;
}
  where
    was : (t : ℕ) (l v : List ℕ) → HadBeen (drop t past) l v ⊎ ((l ≡ p.log.items) × (v ≡ p.volume.items)) → ((l ≡ log) × (v ≡ volume)) ⊎ HadBeen (drop t past) l v
    was t l v (inl had) = inr had
    was t l v (inr new) = inl (new.0 ∙ a, new.1 ∙ b)

-- the disk keeps its contents as they were
pub record IsKept (past : List Pair) (log volume : List ℕ) (later : List Pair) : Type 0 where
  pub pair : Pair
  pub log_is : pair.log.items ≡ log
  pub volume_is : pair.volume.items ≡ volume
  pub pushed : later ≡ past ++ pair ∷ []

pub elapses-to : {past later : List Pair} {log volume : List ℕ} {marks : List Mark} (log' volume' : List ℕ) → IsKept past log volume later → Elapses (state_in past log volume marks) (state_in later log' volume' marks)
elapses-to {past} {later} {log} {volume} {marks} log' volume' k =
    subst (λ (ps : List Pair). Elapses (state_in past log volume marks) (state_in ps log' volume' marks)) (sym k.pushed) (elapses-push past k.pair log volume log' volume' marks k.log_is k.volume_is)

torn-same : (at n : ℕ) (c : List ℕ) → Torn at n c c
torn-same at n c = record { no_shorter = omega arith; no_longer = omega arith; below = λ i l u. refl; above = λ i l u. refl }

cut-same : (n : ℕ) (c : List ℕ) → Cut n c c
cut-same n c = record { no_shorter = omega arith; no_longer = omega arith; below = λ i l u. refl }

pub writes-log : {past later : List Pair} {log volume log' : List ℕ} {marks : List Mark} (at n : ℕ) → IsKept past log volume later → Torn at n log log' → WritesLog at n (state_in past log volume marks) (state_in later log' volume marks)
writes-log {past} {later} {log} {volume} {log'} at n k torn = record {
  log = torn;
  volume = refl;
  crash = λ l v may. (log, (refl, may.1), subst (Torn at n log) (sym may.0) torn);
  time = elapses-to log' volume k;
}

pub writes-volume : {past later : List Pair} {log volume volume' : List ℕ} {marks : List Mark} (at n : ℕ) → IsKept past log volume later → Torn at n volume volume' → WritesVolume at n (state_in past log volume marks) (state_in later log volume' marks)
writes-volume {past} {later} {log} {volume} {volume'} at n k torn = record {
  log = refl;
  volume = torn;
  crash = λ l v may. (volume, (may.0, refl), subst (Torn at n volume) (sym may.1) torn);
  time = elapses-to log volume' k;
}

pub cuts-volume : {past later : List Pair} {log volume volume' : List ℕ} {marks : List Mark} (n : ℕ) → IsKept past log volume later → Cut n volume volume' → CutsVolume n (state_in past log volume marks) (state_in later log volume' marks)
cuts-volume {past} {later} {log} {volume} {volume'} n k cut = record {
  log = refl;
  volume = cut;
  crash = λ l v may. (volume, (may.0, refl), subst (Cut n volume) (sym may.1) cut);
  time = elapses-to log volume' k;
}

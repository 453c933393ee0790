-- The numbers that wait: none before a walk, and one fewer when the children of one are in hand.
use Rattle.std.proofs.Common.{◌≡◌, ◌⊎◌, inl, inr, ℕ, ◌<◌, List, [], ◌∷◌, ◌++◌, length, refl, ap, subst, ◌∙◌, arith}
use Rattle.std.specs.Prelude.{slice_index, replicate}
use Rattle.std.proofs.lemmas.List.{get_or-replicate}
use Rattle.hd_dbd.specs.Types.{SegmentType}
use Rattle.hd_volume.specs.Indexes.{IsAmong}
use Rattle.hd_links.specs.Links.{Links}
use Rattle.hd_links.specs.Pointers.{IsReached}
use Rattle.hd_check_blocks.specs.declared.places.Place.{Place}
use Rattle.hd_check_blocks.specs.Places.{place_at}
use Rattle.hd_check_pointers.specs.Tables.{nobody}
use Rattle.hd_check_walk.specs.Walks.{IsWalkedSoFar}

-- what is among some numbers and one more is among them, or it is that one
pub among-more : (i : ℕ) (ns : List ℕ) (n : ℕ) → IsAmong i (ns ++ n ∷ []) → IsAmong i ns ⊎ (i ≡ n)
among-more i [] n (inl e) = inr e
among-more i [] n (inr none) = absurd none
among-more i (x ∷ ns) n (inl e) = inl (inl e)
among-more i (x ∷ ns) n (inr more) = elim (among-more i ns n more) [ inl own ↦ inl (inr own) | inr e ↦ inr e ]

-- what is among them is among them and one more
pub among-front : (i : ℕ) (ns : List ℕ) (n : ℕ) → IsAmong i ns → IsAmong i (ns ++ n ∷ [])
among-front i [] n none = absurd none
among-front i (x ∷ ns) n (inl e) = inl e
among-front i (x ∷ ns) n (inr more) = inr (among-front i ns n more)

-- and so is that one
pub among-last : (ns : List ℕ) (n : ℕ) → IsAmong n (ns ++ n ∷ [])
among-last [] n = inl refl
among-last (x ∷ ns) n = inr (among-last ns n)

module _ (types : List SegmentType) (m : Links) (ps : List Place) (holders : List ℕ) where
  -- nothing is walked where nothing is held
  pub none-walked : (open_at in_hand : ℕ) (waiting : List ℕ) → holders ≡ replicate (length ps) nobody → waiting ≡ [] → IsWalkedSoFar types m ps open_at in_hand waiting holders
  none-walked open_at in_hand waiting none empty = record {
    right = λ i low held. absurd (held (unheld i low));
    reached = λ i low held. absurd (held (unheld i low));
    forward = λ i low held. absurd (held (unheld i low));
    children = λ i low held. absurd (held (unheld i low));
    waits = λ i among. absurd (subst (IsAmong i) empty among);
  }
    where
      unheld : (i : ℕ) → i < length ps → slice_index holders i ≡ nobody
      unheld i low = ap (λ (xs : List ℕ). slice_index xs i) none ∙ get_or-replicate (length ps) i nobody 0 low

  -- of a number that waited last, the children are in hand, and it waits no more
  pub in-hand : (n open_at : ℕ) (rest : List ℕ) → IsWalkedSoFar types m ps open_at (length ps) (rest ++ n ∷ []) holders → IsWalkedSoFar types m ps open_at n rest holders
  in-hand n open_at rest walked = record {
    right = walked.right;
    reached = walked.reached;
    forward = walked.forward;
    children = λ i low held other rests. walked.children i low held (λ e. omega arith) (λ among. elim (among-more i rest n among) [ inl own ↦ rests own | inr e ↦ other e ]);
    waits = λ i among. walked.waits i (among-front i rest n among);
  }

  -- and it is reached
  pub waiting-reached : (n open_at in_hand : ℕ) (rest : List ℕ) → IsWalkedSoFar types m ps open_at in_hand (rest ++ n ∷ []) holders → (k : ℕ) × IsReached types m k (place_at ps n).address
  waiting-reached n open_at in_hand rest walked = (let held = walked.waits n (among-last rest n) in walked.reached n held.0 held.1)

-- What is held stays held while a walk goes on, and so stays what rests on it.
use Rattle.std.proofs.Common.{inl, inr, ℕ, List, sym, ◌∙◌, arith}
use Rattle.hd_dbd.specs.Types.{SegmentType}
use Rattle.hd_links.specs.Links.{Links}
use Rattle.hd_check_blocks.specs.declared.places.Place.{Place}
use Rattle.hd_check_walk.specs.Reading.{IsChildless}
use Rattle.hd_check_walk.specs.Walks.{IsHeldBy, IsFollowed, StaysHeld, AreChildrenWalked}

-- what a record holds it still holds
pub held-stays : (ps : List Place) (holders holders2 : List ℕ) (h t p : ℕ) → StaysHeld holders holders2 → IsHeldBy ps holders h t p → IsHeldBy ps holders2 h t p
held-stays ps holders holders2 h t p stays held =
    (held.0, held.1, held.2, stays held.0 (λ none. held.4 (sym held.3 ∙ none)) ∙ held.3, held.4)

-- what was followed still is
pub followed-stays : (ps : List Place) (holders holders2 : List ℕ) (h t p : ℕ) → StaysHeld holders holders2 → IsFollowed ps holders h t p → IsFollowed ps holders2 h t p
followed-stays ps holders holders2 h t p stays (inl none) = inl none
followed-stays ps holders holders2 h t p stays (inr held) = inr (held-stays ps holders holders2 h t p stays held)

-- children that are walked still are
pub children-stay : (types : List SegmentType) (m : Links) (ps : List Place) (holders holders2 : List ℕ) (h : ℕ) → StaysHeld holders holders2
    → AreChildrenWalked types m ps holders h → AreChildrenWalked types m ps holders2 h
children-stay types m ps holders holders2 h stays walked = record {
  firsts = λ t child. followed-stays ps holders holders2 h t (m.first_child h t) stays (walked.firsts t child);
  lasts = walked.lasts;
}

-- of a segment that names no children all are walked
pub childless-walked : (types : List SegmentType) (m : Links) (ps : List Place) (holders : List ℕ) (a : ℕ) → IsChildless types m a → AreChildrenWalked types m ps holders a
childless-walked types m ps holders a none = record {
  firsts = λ u child. inl (none u child).0;
  lasts = λ u child kept. record {
    some = λ first. absurd (let z = (none u child).0 in omega arith);
    none = λ z. (none u child).1;
  };
}

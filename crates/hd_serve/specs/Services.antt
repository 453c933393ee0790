-- What a service keeps from session to session.
use Rattle.std.specs.Prelude.{ℕ, List}
use Rattle.hd_serve.specs.declared.call.Limits.{Limits}

-- What callers see of a service: what it has read of the input and is no request yet, the frame that comes first in the next session, what right frames
-- keep to, and the room for areas.
pub record ServiceState : Type 0 where
  pub unread : List ℕ
  pub first : List ℕ
  pub limits : Limits
  pub room : ℕ

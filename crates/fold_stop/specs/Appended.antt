-- What a list becomes: pieces behind it, or a refusal. Definitions only.
use Rattle.std.specs.Prelude.{List, ◌++◌}
use Rattle.refusal.specs.Result.{Result, refused, done}
use Rattle.protocol.specs.declared.Event.{Event}

-- the pieces behind the list so far
abbrev pub behind : List Event → Result (List Event) → Result (List Event)
behind so_far (refused n) = refused n
behind so_far (done ps) = done (so_far ++ ps)

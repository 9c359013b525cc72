-- What a side of the code stands for. Definitions only.
use Rattle.protocol.specs.Execute.{Side, Pre, Post}
use Rattle.rows.specs.declared.Side.{Side as Written}
use Rattle.rows.specs.declared.Side.TheVariants as S

abbrev pub side_of : Written → Side
side_of S.Pre = Pre
side_of S.Post = Post

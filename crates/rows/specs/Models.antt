-- What a digest and the tree of its claims stand for.
use Rattle.claims.specs.Models.{node}
use Rattle.runs.specs.Contents.{Content, about}
use Rattle.rows.specs.declared.held.About.{About}
use Rattle.rows.specs.declared.held.LentAbout.{LentAbout}

abbrev pub content_about : About → Content
content_about a = about a.digest (node a.top)

-- the same, where both are lent
abbrev pub content_lent : LentAbout → Content
content_lent a = about a.digest.now (node a.top.now)

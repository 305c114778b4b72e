-- What the head that the reader hands out stands for.
use Rattle.proof.specs.declared.head.Head.{Head as Read}
use Rattle.format.specs.Files.{Head, head}

abbrev pub headed : Read → Head
headed h = head h.hash h.digest.now

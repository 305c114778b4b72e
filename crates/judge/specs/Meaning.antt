-- What a judge means, and the laws of pairs.
use Rattle.std.specs.Prelude.{◌≡◌, ℕ, Bool, false, cond, ◌||◌, List}
use Rattle.format.specs.Outcome.{Outcome, got, fault}
use Rattle.judge.specs.declared.verdict.Verdict.{Verdict}
use Rattle.judge.specs.declared.verdict.Verdict.TheVariants.{Confirmed, Rejected, Waiting, Foreign}

-- what a judge says of a tag that it owns
pub data Ruling : Type 0 where
  confirmed : ℕ → Ruling
  rejected : Ruling
  waiting : Ruling

-- the tags that it owns, and a ruling for each tag, payload and message
pub record Meaning : Type 0 where
  pub owns : List ℕ → Bool
  pub rules : List ℕ → List ℕ → List ℕ → Ruling

abbrev pub spoken : Ruling → Verdict
spoken (confirmed time) = Confirmed time
spoken rejected = Rejected
spoken waiting = Waiting

-- the verdict under a meaning: foreign for every tag that is not owned
abbrev pub judged : Meaning → List ℕ → List ℕ → List ℕ → Verdict
judged m tag payload message = cond (m.owns tag) (spoken (m.rules tag payload message)) Foreign

-- a payload that holds what its tag promises is ruled by that, any other is rejected
abbrev pub ruled_by : {A : Type 0} → (A → Ruling) → Outcome A → Ruling
ruled_by rule (got x next) = rule x
ruled_by rule (fault number at) = rejected

-- it owns nothing, so its rulings are never heard
abbrev pub nobody : Meaning
nobody = record { owns = λ tag. false; rules = λ tag payload message. rejected }

-- the tags of both; where the first owns a tag it is asked, else the second
abbrev pub paired : Meaning → Meaning → Meaning
paired a b = record {
  owns = λ tag. a.owns tag || b.owns tag;
  rules = λ tag payload message. cond (a.owns tag) (a.rules tag payload message) (b.rules tag payload message);
}

-- two judges that own the same tags and give the same verdicts
pub record Alike (a b : Meaning) : Type 0 where
  pub owns : (tag : List ℕ) → a.owns tag ≡ b.owns tag
  pub verdicts : (tag payload message : List ℕ) → judged a tag payload message ≡ judged b tag payload message

abbrev pub PairingIsAssociative : Type 0
PairingIsAssociative = (a b c : Meaning) → Alike (paired (paired a b) c) (paired a (paired b c))

-- a judge that owns no tag, whatever its rulings, changes nothing before or behind another
abbrev pub NobodyChangesNothing : Type 0
NobodyChangesNothing =
    (a silent : Meaning) → ((tag : List ℕ) → silent.owns tag ≡ false) → Alike (paired silent a) a × Alike (paired a silent) a

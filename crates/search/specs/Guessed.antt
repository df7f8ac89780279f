-- A codeword that is known before the search, for every member: whatever it is guessed from, it is sound, and the search may begin with it.
--
--   KnownFirst k f     whatever the columns, a message of the rate and its codeword stand in f
--   known-shown        so they do in what values show
--   known-nothing      so they do in nothing found
use Rattle.std.specs.Prelude.{◌≡◌, refl, List, ℕ, ◌≤◌}
use Rattle.std.proofs.Common.{sym, subst}
use Rattle.family.specs.Member.{Member}
use Rattle.search.specs.Result.{Finding, nothing_found}
use Rattle.search.specs.Answered.{Sound, sound_none, sound-nothing}
use Rattle.search.specs.Candidate.{Candidate, ShownOf}
use Rattle.search.specs.Deciding.{held_by}

pub record KnownFirst (𝓜 : Member) (most k : ℕ) (f : Finding) : Type 0 where
  pub sound : (columns : ℕ → List ℕ) → Sound 𝓜 most k columns f

module _ {𝓜 : Member} {most k : ℕ} where
  pub known-shown : {function : List ℕ} {held : Candidate} → ShownOf 𝓜 most k function held → KnownFirst 𝓜 most k (held_by held)
  known-shown S = record { sound = λ columns. sound_none refl S.word_of S.behind S.encoded }

  pub known-nothing : {f : Finding} → k ≤ most → f ≡ nothing_found 𝓜 most → KnownFirst 𝓜 most k f
  known-nothing few e = record { sound = λ columns. subst (Sound 𝓜 most k columns) (sym e) (sound-nothing few) }

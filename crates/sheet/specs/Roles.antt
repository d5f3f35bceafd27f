-- The numbers of the roles.
use Rattle.std.specs.Prelude.{◌≡◌, ℕ, false, Result, MatchResult}
use Rattle.pages.specs.Reasons.{may}
use Rattle.refusals.specs.declared.refusal.Refusal.{Refusal}
use Rattle.refusals.specs.declared.refusal.Refusal.TheVariants as refusal
use Rattle.sheet.specs.declared.role.Role.{Role}
use Rattle.sheet.specs.declared.role.Role.TheVariants as role

abbrev pub number_of : Role → ℕ
number_of role.Reader = 1
number_of role.Editor = 2
number_of role.Manager = 3

-- the role of this number, or a refusal where it is the number of no role
abbrev pub IsNamed : ℕ → Result Role Refusal → Type 0
IsNamed number r =
    MatchResult r (λ x. number_of x ≡ number) (λ e. (e ≡ refusal.Role) × (may 1 number ≡ false))

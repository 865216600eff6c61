-- The promise of the certificate, that of certifying::call: the number, the kind, what it names, and the work at exit. The verdict: certifying/specs/call/Verdict; the rules:
-- certifying/specs/rules/Rules: 1, 2, 3, 6, 16, 18, 24.
pub use Rattle.certifying.specs.call.Promise.{CertifyAnswer as Certify}

-- What faults are, passed on for crates that stand on `systems` alone. Assumes nothing.
pub use Rattle.fault.specs.Judged.{Answer, fault}
pub use Rattle.fault.specs.declared.refusal.Fault.{Fault}
pub use Rattle.fault.specs.declared.refusal.Refusal.{Refusal}
pub use Rattle.fault.specs.declared.refusal.Refusal.TheVariants.{SystemEvents, AuditStart, AuditEvent, AuditPair}

pub mod LessonLemmas
pub mod CoverLemmas
pub mod RootLemmas
pub mod RecordedLemmas
pub mod TeachingLemmas
pub mod FileLemmas
pub mod DiskLemmas

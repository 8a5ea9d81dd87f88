pub mod ResumingCopies

mod Walks
